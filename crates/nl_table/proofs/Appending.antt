-- A key, as its fields are appended one after another.
use Rattle.std.proofs.Common.{◌≡◌, ℕ, List, [], ◌∷◌, ◌++◌, ap, sym, ◌∙◌, append_assoc}
use Rattle.std.proofs.lemmas.List.{append-nil}
use Rattle.nl_table.specs.Keys.{KeyField, field_bytes, key_bytes}

-- these bytes are the key of these fields
pub record IsKeyOf (fs : List KeyField) (key : List ℕ) : Type 0 where
  pub is : key ≡ key_bytes fs

-- the bytes of one more field stand behind those of the others
push : (fs : List KeyField) (f : KeyField) → key_bytes fs ++ field_bytes f ≡ key_bytes (fs ++ f ∷ [])
push [] f = sym (append-nil (field_bytes f))
push (g ∷ fs) f = append_assoc (field_bytes g) (key_bytes fs) (field_bytes f) ∙ ap (λ l. field_bytes g ++ l) (push fs f)

pub none : {key : List ℕ} → key ≡ [] → IsKeyOf [] key
none e = record { is = e }

-- as room is made for more, they stay
pub kept : {fs : List KeyField} {before after : List ℕ} → IsKeyOf fs before → after ≡ before → IsKeyOf fs after
kept k e = record { is = e ∙ k.is }

pub more : {fs : List KeyField} {before after : List ℕ} → IsKeyOf fs before → (f : KeyField) → after ≡ before ++ field_bytes f → IsKeyOf (fs ++ f ∷ []) after
more {fs = fs} k f e = record { is = e ∙ ap (λ l. l ++ field_bytes f) k.is ∙ push fs f }
