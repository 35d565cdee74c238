-- For private clauses: parts and rows as the program holds them, and texts that go on with rows.
use Rattle.std.specs.Prelude.{◌≡◌, ℕ, List, [], ◌++◌, map, Option, true}
use Rattle.std.specs.List.{flat_map}
use Rattle.nl_frame.specs.declared.scanning.ScanError.{ScanError}
use Rattle.nl_attr.specs.declared.events.Event.{Event}
use Rattle.nl_attr.specs.declared.order.Order.{Order}
use Rattle.rtnl.specs.declared.bytes.parts.Piece.{Piece}
use Rattle.rtnl.specs.declared.bytes.rows.BytePart.{BytePart as HeldPart}
use Rattle.rtnl.specs.declared.bytes.rows.Label.{Label as HeldLabel}
use Rattle.rtnl.specs.declared.bytes.rows.ByteRow.{ByteRow as HeldRow}
use Rattle.rtnl.specs.declared.bytes.rows.RowFormat.{RowFormat}
use Rattle.rtnl.specs.declared.bytes.rows.RowFormat.TheVariants.{Text, Coloured, Json}
use Rattle.rtnl.specs.declared.bytes.lists.AttrList.{AttrList as HeldList}
use Rattle.rtnl.specs.ByteParts.{AttrList, BytePart}
use Rattle.rtnl.specs.Marks.{Label, Mark}
use Rattle.rtnl.specs.ByteRows.{AreRows, ByteRow, HasAllRows, HasRows}
use Rattle.rtnl.specs.Kernel.{kernel_name}
use Rattle.rtnl.specs.Tape.{refusal_line}

-- the label that one of the program is
abbrev pub label_view : HeldLabel → Label
label_view l = record { level = l.level; indent = l.indent; name = kernel_name l.name; notation = l.notation; is_aside = l.is_aside }

-- the part
abbrev pub part_view : HeldPart → BytePart
part_view p = record { place = p.place; bytes = p.bytes.now; label = label_view p.label; refusal = p.refusal }

-- what pieces of the program say of bytes
abbrev pub piece_view : Piece → Mark
piece_view p = record { extent = p.extent; label = label_view p.label }

abbrev pub marks_in : List Piece → List Mark
marks_in = map piece_view

-- what is known of a list
abbrev pub attr_list_view : HeldList → AttrList
attr_list_view a = record { context = a.context; set = a.set; events = a.events.now; left = a.left; family = a.family.now }

-- the row that one of the program is
abbrev pub row_view : HeldRow → ByteRow
row_view r = record { place = r.place; bytes = r.bytes.now; part = part_view r.part; is_first = r.is_first }

module _ (print : ByteRow → List ℕ) where
  -- a text goes on with the rows of a part
  abbrev pub AddsPart : BytePart → List ℕ → List ℕ → Type 0
  AddsPart p old new = (rows : List ByteRow) × AreRows p true p.place p.bytes rows × (new ≡ old ++ flat_map print rows)

  -- with rows of bytes from a place on, by what they are
  abbrev pub AddsRows : ℕ → List ℕ → Option ScanError → List Mark → List ℕ → List ℕ → Type 0
  AddsRows place d refusal marks old new = (rows : List ByteRow) × HasRows place d refusal marks rows × (new ≡ old ++ flat_map print rows)

  -- with the rows of a datagram, by its events
  abbrev pub AddsAllRows : Order → List ℕ → List Event → Option ScanError → List ℕ → List ℕ → Type 0
  AddsAllRows o d es refusal old new = (rows : List ByteRow) × HasAllRows o d es refusal rows × (new ≡ old ++ flat_map print rows)

-- the line of a refusal behind the rows, in text
abbrev pub refusal_ending : RowFormat → Option ScanError → List ℕ
refusal_ending Text o = refusal_line o
refusal_ending Coloured o = refusal_line o
refusal_ending Json o = []
