-- What bytes of a format mean, as the value of a row.
use Rattle.json.specs.Json as json
use Rattle.json.specs.Json.{Json}
use Rattle.json.specs.Token.{key}
use Rattle.rtnl.proofs.Common.{◌≡◌, ◌∙◌, ℕ, List, [], ◌∷◌, true, false, None, Order, ap, codes, refl, sym, json_tokens}
use Rattle.nl_values.specs.Meanings as sense
use Rattle.nl_values.specs.Meanings.{Sense}
use Rattle.nl_values.specs.declared.format.Format.{Format}
use Rattle.rtnl.specs.Data.{Part, Shows, data_json, is_known, or_digits, parts_of, sense_at, sense_json}
use Rattle.rtnl.specs.Json.{Line, ◌⊕◌, fields_tokens}
use Rattle.rtnl.specs.Notations.{or_null}
use Rattle.rtnl.proofs.Json.{named_value}
use Rattle.rtnl.proofs.Payloads.{no_parts, one_shown}

-- a meaning that is known is a value
known_value : (o : Order) (family : List ℕ) (shows : Shows) (parts : List Part) (bs : List ℕ) (s : Sense) → is_known s ≡ true
    → or_digits bs (sense_json o family shows parts bs s) ≡ or_null (sense_json o family shows parts bs s)
known_value o family shows parts bs sense.unknown known = absurd cc
known_value o family shows parts bs sense.flag known = refl
known_value o family shows parts bs (sense.text t) known = refl
known_value o family shows parts bs (sense.integer z) known = refl
known_value o family shows parts bs (sense.value z name) known = refl
known_value o family shows parts bs (sense.bits n names) known = refl
known_value o family shows parts bs (sense.mac address) known = refl
known_value o family shows parts bs (sense.ipv4 address) known = refl
known_value o family shows parts bs (sense.ipv6 address) known = refl
known_value o family shows parts bs (sense.series n) known = refl
known_value o family shows parts bs (sense.counters n names) known = refl
known_value o family shows parts bs (sense.fields of) known = refl
known_value o family shows parts bs (sense.array of size) known = refl
known_value o family shows parts bs (sense.headed of set from) known = refl
known_value o family shows parts bs (sense.list set) known = refl

-- one that isn't known is none
no_value : (o : Order) (family : List ℕ) (shows : Shows) (parts : List Part) (bs : List ℕ) (s : Sense) → is_known s ≡ false → sense_json o family shows parts bs s ≡ None
no_value o family shows parts bs sense.unknown unknown = refl
no_value o family shows parts bs sense.flag unknown = absurd cc
no_value o family shows parts bs (sense.text t) unknown = absurd cc
no_value o family shows parts bs (sense.integer z) unknown = absurd cc
no_value o family shows parts bs (sense.value z name) unknown = absurd cc
no_value o family shows parts bs (sense.bits n names) unknown = absurd cc
no_value o family shows parts bs (sense.mac address) unknown = absurd cc
no_value o family shows parts bs (sense.ipv4 address) unknown = absurd cc
no_value o family shows parts bs (sense.ipv6 address) unknown = absurd cc
no_value o family shows parts bs (sense.series n) unknown = absurd cc
no_value o family shows parts bs (sense.counters n names) unknown = absurd cc
no_value o family shows parts bs (sense.fields of) unknown = absurd cc
no_value o family shows parts bs (sense.array of size) unknown = absurd cc
no_value o family shows parts bs (sense.headed of set from) unknown = absurd cc
no_value o family shows parts bs (sense.list set) unknown = absurd cc

module _ (o : Order) (f : Format) (bs : List ℕ) (s : Sense) (line : Line) where
  -- what is shown of one level
  shown : s ≡ sense_at o 1 f [] bs → sense_json o [] (data_json o [] 0) [] bs s ≡ data_json o [] 1 f [] [] bs
  shown is = ap (sense_json o [] (data_json o [] 0) [] bs) is ∙ sym (one_shown o [] 1 0 f [] [] bs refl)

  pub no_meaning_written : (new : Line) → s ≡ sense_at o 1 f [] bs → is_known s ≡ false → new ≡ line ⊕ fields_tokens ((codes "value", json.null) ∷ [])
      → new ≡ line ⊕ fields_tokens ((codes "value", or_null (data_json o [] 1 f [] [] bs)) ∷ [])
  no_meaning_written new is unknown written =
      written ∙ ap (λ d. line ⊕ fields_tokens ((codes "value", or_null d) ∷ [])) (sym (no_value o [] (data_json o [] 0) [] bs s unknown) ∙ shown is)

  pub meaning_written : (named new : Line) → s ≡ sense_at o 1 f [] bs → is_known s ≡ true → named ≡ line ⊕ (key (codes "value") ∷ [])
      → new ≡ named ⊕ json_tokens (or_digits bs (sense_json o [] (data_json o [] 0) (parts_of o []) bs s))
      → new ≡ line ⊕ fields_tokens ((codes "value", or_null (data_json o [] 1 f [] [] bs)) ∷ [])
  meaning_written named new is known begun written =
      named_value line named new (codes "value") (or_null (data_json o [] 1 f [] [] bs)) begun
      (written ∙ ap (λ parts. named ⊕ json_tokens (or_digits bs (sense_json o [] (data_json o [] 0) parts bs s))) (no_parts o)
      ∙ ap (λ v. named ⊕ json_tokens v) (known_value o [] (data_json o [] 0) [] bs s known ∙ ap or_null (shown is)))
