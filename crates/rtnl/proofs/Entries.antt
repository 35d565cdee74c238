-- The entries of a table, printed one after another.
use Rattle.std.proofs.Common.{◌≡◌, ℕ, ◌+◌, List, [], ◌∷◌, ◌++◌, map, sym, ap, ◌∙◌, append_assoc, append-nil}
use Rattle.rtnl.proofs.Common.{Order, Item}
use Rattle.nl_frame.specs.Message.{object}
use Rattle.rtnl.specs.Tabled.{Report, bodies_text, entries_text}

module _ {T : Type 0} (item : T → Item) where
  -- an entry, by what it stands for
  abbrev pub pair : List ℕ × T → List ℕ × Item
  pair e = (e.0, item e.1)

  -- one entry more
  pub one_entry : (t : Report) (o : Order) (n : ℕ) (es rest : List (List ℕ × T)) (k : List ℕ) (x : T) (out new all : List ℕ) → es ≡ (k, x) ∷ rest → out ++ entries_text t o n (map pair es) ≡ all
      → new ≡ out ++ t.entry o n (object (item x).0 (item x).1) → new ++ entries_text t o (n + 1) (map pair rest) ≡ all
  unfolding bodies_text
  one_entry t o n es rest k x out new all split h more =
      let text = entries_text t o (n + 1) (map pair rest) in
      ap (λ l. l ++ text) more ∙ append_assoc out (t.entry o n (object (item x).0 (item x).1)) text ∙ sym (ap (λ l. out ++ entries_text t o n (map pair l)) split) ∙ h

  -- no entry is left
  pub no_more : (t : Report) (o : Order) (n : ℕ) (es : List (List ℕ × T)) (out all : List ℕ) → es ≡ [] → out ++ entries_text t o n (map pair es) ≡ all → out ≡ all
  unfolding bodies_text
  no_more t o n es out all none h = sym (append-nil out) ∙ sym (ap (λ l. out ++ entries_text t o n (map pair l)) none) ∙ h
