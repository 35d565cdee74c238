-- The answers to C of the tables of a session.
use Rattle.std.specs.Prelude.{◌≡◌, ◌+◌, ℕ, List, [], ◌∷◌, ◌++◌, length, Option, Some, None, option_map, slice_get, position, bytes_eq}
use Rattle.std.specs.Map.{keys_of}
use Rattle.nl_attr.specs.declared.order.Order.{Order}
use Rattle.nl_attr.specs.Tree.{Items}
use Rattle.nl_attr.specs.Written.{with_padding}
use Rattle.nl_route.specs.declared.family.Family.{Family}
use Rattle.nl_route.specs.declared.family.Verb.TheVariants.{New}
use Rattle.nl_route.specs.Families.{type_of}
use Rattle.nl_route.specs.Fields.{Field}
use Rattle.nl_route.specs.Fields as fields
use Rattle.nl_route.specs.Body.{body_written}
use Rattle.nl_frame.specs.declared.header.Header.{Header}
use Rattle.nl_frame.specs.declared.writing.WriteError.{WriteError}
use Rattle.nl_frame.specs.Header.{header_fields}
use Rattle.nl_frame.specs.Message.{MessageVal, object}
use Rattle.nl_frame.specs.Outcomes.{write_code}
use Rattle.nl_frame.specs.Written.{written}
use Rattle.nl_table.specs.Content.{Content}
use Rattle.nl_dump.specs.Items.{Item}
use Rattle.nl_dump.specs.View.{View, table_at}
use Rattle.rtnl_c.specs.declared.put.Put.{Put}
use Rattle.rtnl_c.specs.declared.tables.TableSize.{TableSize}
use Rattle.rtnl_c.specs.declared.tables.FoundEntry.{FoundEntry}
use Rattle.rtnl_c.specs.Codes.{no_kind, no_session, nothing_there}
use Rattle.rtnl_c.specs.Put.{PutsFound, not_put}

-- ---- the size of a table

abbrev pub sized : ℕ → ℕ → ℕ → TableSize
sized count missed limit = record { missed = missed; count = count; limit = limit; code = 0 }

abbrev pub no_table : ℕ → TableSize
no_table code = record { missed = 0; count = 0; limit = 0; code = code }

abbrev pub size_of : Content Item → TableSize
size_of t = sized (length t.entries) t.missed t.limit

abbrev pub table_in : Option View → Option Family → TableSize
table_in None kind = no_table no_session
table_in (Some v) None = no_table no_kind
table_in (Some v) (Some k) = size_of (table_at k v.tables)

-- ---- what is put of a table into a buffer

-- where there is a session and the family
abbrev pub OfTable : (Content Item → Family → List ℕ → List ℕ → Put → Type 0) → Option View → Option Family → List ℕ → List ℕ → Put → Type 0
OfTable P None kind old new a = (a ≡ not_put no_session) × (new ≡ old)
OfTable P (Some v) None old new a = (a ≡ not_put no_kind) × (new ≡ old)
OfTable P (Some v) (Some k) old new a = P (table_at k v.tables) k old new a

-- ---- an entry, as a message

-- the message NEW of an item, with no flags, sequence number and port id
abbrev pub entry_message : Family → Item → MessageVal
entry_message k item = record { kind = type_of k New; flags = 0; seq = 0; port = 0; body = object item.0 item.1 }

-- the bytes of a family's message whose body has so many bytes, with these fields and attributes
abbrev pub front_of : Family → ℕ → Header
front_of k len = record { len = 16 + len; kind = type_of k New; flags = 0; seq = 0; port = 0 }

abbrev pub message_bytes : Order → Family → ℕ → List Field → Items → List ℕ
message_bytes o k len fs is = with_padding (fields.written o (header_fields (front_of k len)) ++ body_written o fs is)

-- the entry at an index of the table of a family, as its message is written
abbrev pub entry_bytes : ℕ → Family → Content Item → Option (List ℕ)
entry_bytes index k t = option_map (λ e. written t.order (entry_message k e.1 ∷ [])) (slice_get t.entries index)

-- a message was put, where there is one, or it can't be written
pub data PutsMessage (bytes : Option (List ℕ)) (old : List ℕ) : List ℕ → Put → Type 0 where
  puts : (new : List ℕ) (a : Put) → PutsFound bytes nothing_there old new a → PutsMessage bytes old new a
  unwritten : (e : WriteError) → PutsMessage bytes old old (not_put (write_code e))

abbrev pub PutsEntry : ℕ → Content Item → Family → List ℕ → List ℕ → Put → Type 0
PutsEntry index t k old new a = PutsMessage (entry_bytes index k t) old new a

-- the key of the entry at an index
abbrev pub key_bytes : ℕ → Content Item → Option (List ℕ)
key_bytes index t = option_map (λ e. e.0) (slice_get t.entries index)

abbrev pub PutsKey : ℕ → Content Item → Family → List ℕ → List ℕ → Put → Type 0
PutsKey index t k old new a = PutsFound (key_bytes index t) nothing_there old new a

-- ---- the place of a key

abbrev pub found_at : ℕ → ℕ → FoundEntry
found_at index code = record { index = index; code = code }

abbrev pub found_if : Option ℕ → FoundEntry
found_if None = found_at 0 nothing_there
found_if (Some index) = found_at index 0

abbrev pub place_of : List ℕ → Content Item → Option ℕ
place_of key t = position (bytes_eq key) (keys_of t.entries)

abbrev pub found_in : Option View → Option Family → List ℕ → FoundEntry
found_in None kind key = found_at 0 no_session
found_in (Some v) None key = found_at 0 no_kind
found_in (Some v) (Some k) key = found_if (place_of key (table_at k v.tables))
