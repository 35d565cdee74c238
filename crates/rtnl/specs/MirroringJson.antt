-- What is told of a mirror, as lines of JSON.
use Rattle.std.specs.Prelude.{ℕ, List, [], ◌∷◌, ◌++◌, codes, true, false, Option, Some, None}
use Rattle.nl_attr.specs.declared.order.Order.{Order}
use Rattle.nl_route.specs.declared.family.Family.{Family}
use Rattle.nl_route.specs.Families.{name_of}
use Rattle.nl_dump.specs.declared.dump.Dump.{Dump}
use Rattle.nl_dump.specs.Items.{Item}
use Rattle.nl_mirror.specs.declared.stale.Stale.{Stale}
use Rattle.nl_mirror.specs.Names.{stale_name}
use Rattle.rtnl.specs.Json.{Field, boolean, json_line, number, object, string}
use Rattle.rtnl.specs.MessagesJson.{item_field}
use Rattle.rtnl.specs.Mirroring.{MirrorReport}
use Rattle.rtnl.specs.TabledJson.{dump_fields}

-- the sign of a change
unfoldable pub change_fields : List ℕ → List Field
change_fields sign = (codes "change", string sign) ∷ []

-- an entry that is new
unfoldable pub added_json : Order → ℕ → Item → List ℕ
added_json o n x = json_line (object (change_fields (codes "+") ++ ((codes "entry", number n) ∷ item_field o x ∷ [])))

-- an entry that is told anew, and what it was before
unfoldable pub changed_json : Order → ℕ → Item → Item → List ℕ
changed_json o n x before =
    json_line (object (change_fields (codes "~") ++ ((codes "entry", number n) ∷ item_field o x ∷ (codes "before", (item_field o before).1) ∷ [])))

-- an entry that is gone
unfoldable pub removed_json : Order → ℕ → Item → List ℕ
removed_json o n before = json_line (object (change_fields (codes "-") ++ ((codes "entry", number n) ∷ item_field o before ∷ [])))

-- a table was renewed, of so many entries
unfoldable pub renewed_json : Family → ℕ → List ℕ
renewed_json kind entries =
    json_line (object (change_fields (codes "=") ++ ((codes "table", string (name_of kind)) ∷ (codes "entries", number entries) ∷ [])))

-- why a table is stale
unfoldable pub doubted_json : Family → Stale → List ℕ
doubted_json kind why =
    json_line (object (change_fields (codes "?") ++ ((codes "table", string (name_of kind)) ∷ (codes "stale", string (stale_name why)) ∷ [])))

-- a dump didn't begin
unfoldable pub unbegun_json : Dump → List ℕ
unbegun_json d = json_line (object (dump_fields d ++ (codes "refused", string (codes "seq")) ∷ []))

-- whether a table is current, or why not
unfoldable pub current_fields : Option Stale → List Field
current_fields None = (codes "current", boolean true) ∷ []
current_fields (Some why) = (codes "current", boolean false) ∷ (codes "stale", string (stale_name why)) ∷ []

-- how a table stands
unfoldable pub standing_json : Family → ℕ → ℕ → Option Stale → List ℕ
standing_json kind entries missed why =
    json_line (object ((codes "table", string (name_of kind)) ∷ (codes "entries", number entries) ∷ (codes "missed", number missed) ∷ current_fields why))

abbrev pub in_json : MirrorReport
in_json = record {
  unbegun = unbegun_json;
  added = λ o k n x. added_json o n x;
  changed = λ o k n x before. changed_json o n x before;
  removed = λ o k n before. removed_json o n before;
  renewed = renewed_json;
  doubted = doubted_json;
  table = λ _. [];
  standing = standing_json;
}
