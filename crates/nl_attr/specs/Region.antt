-- The specification of region.rt: what stands in a region, and the header at a position in one.
use Rattle.std.specs.Prelude.{◌≡◌, Option, Some, None}
use Rattle.nl_attr.specs.declared.region.Parts.{Parts}
use Rattle.nl_attr.specs.declared.region.Parts.TheVariants.{Attrs, Hops}
use Rattle.nl_attr.specs.declared.region.OpenRegion.{OpenRegion}
use Rattle.nl_attr.specs.declared.tree.Content.{Content}
use Rattle.nl_attr.specs.declared.tree.Content.TheVariants as content
use Rattle.nl_attr.specs.declared.tree.Ctx.{Ctx}
use Rattle.nl_attr.specs.declared.tree.Ctx.TheVariants.{Route}
use Rattle.nl_attr.specs.Heads.{Sort, attr_head, hop_head, Head}

-- the content of an attribute whose payload is a region of these parts
abbrev pub content_in : Parts → Content
content_in (Attrs c) = content.List c
content_in Hops = content.Hops

-- these are the parts of the region in an attribute of this content; none where it holds bytes
abbrev pub HasParts : Content → Option Parts → Type 0
HasParts c None = c ≡ content.Bytes
HasParts c (Some p) = c ≡ content_in p

-- the kind of each header in a region of these parts
abbrev pub sort_in : Parts → Sort
sort_in (Attrs c) = attr_head
sort_in Hops = hop_head

-- the context of the attributes in it
abbrev pub ctx_in : Parts → Ctx
ctx_in (Attrs c) = c
ctx_in Hops = Route

-- the header at a position in a region
abbrev pub head_of : OpenRegion → Head
head_of r = record { place = r.place; sort = sort_in r.parts; ctx = ctx_in r.parts; level = r.level; left = r.left.now }
