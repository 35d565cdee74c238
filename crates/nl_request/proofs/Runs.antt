-- What the calls of a request's parts make, one after another.
use Rattle.nl_request.proofs.Common.{◌≡◌, ℕ, List, [], ◌∷◌, ◌++◌, Some, None, refl, sym, ap, ◌∙◌, append_assoc, AnyHead, family_of, Built, no_flags, sticks, Call, open_attr, close, end, called, run, calls_of_items, calls_of_val, with_message, Part, items_of, calls_of_part, request}
use Rattle.nl_frame.specs.declared.building.refusal.BuildError.{BuildError}
use Rattle.nl_frame.specs.Building as building
use Rattle.nl_request.specs.declared.operation.Operation.{Operation}
use Rattle.nl_request.specs.Operations.{flags_of, type_of}

-- calls behind others
pub run_both : (b : Built) (xs ys : List Call) → run b (xs ++ ys) ≡ run (run b xs) ys
run_both b [] ys = refl
run_both b (x ∷ xs) ys = run_both (called b x) xs ys

-- each of these parts is put, one after another
abbrev pub Puts : Built → List Part → Built → Type 0
Puts b [] d = d ≡ b
Puts b (p ∷ ps) d = (c : Built) × (c ≡ run b (calls_of_part p)) × Puts c ps d

pub parts_run : (b : Built) (ps : List Part) (d : Built) → Puts b ps d → d ≡ run b (calls_of_items (items_of ps))
parts_run b [] d e = e
parts_run b (None ∷ ps) d (c, e, more) = parts_run c ps d more ∙ ap (λ (x : Built). run x (calls_of_items (items_of ps))) e
parts_run b (Some p ∷ ps) d (c, e, more) =
    parts_run c ps d more ∙ ap (λ (x : Built). run x (calls_of_items (items_of ps))) e ∙ sym (run_both b (calls_of_val p.0 no_flags p.1) (calls_of_items (items_of ps)))

-- the calls of some parts, and of those behind them
items_both : (ps qs : List Part) → calls_of_items (items_of (ps ++ qs)) ≡ calls_of_items (items_of ps) ++ calls_of_items (items_of qs)
items_both [] qs = refl
items_both (None ∷ ps) qs = items_both ps qs
items_both (Some p ∷ ps) qs =
    let cs = calls_of_val p.0 no_flags p.1 in
    ap (λ (xs : List Call). cs ++ xs) (items_both ps qs) ∙ sym (append_assoc cs (calls_of_items (items_of ps)) (calls_of_items (items_of qs)))

pub parts_more : (b c d : Built) (ps qs : List Part) → c ≡ run b (calls_of_items (items_of ps)) → d ≡ run c (calls_of_items (items_of qs)) → d ≡ run b (calls_of_items (items_of (ps ++ qs)))
parts_more b c d ps qs e f =
    let xs = calls_of_items (items_of ps) in
    let ys = calls_of_items (items_of qs) in
    f ∙ ap (λ (x : Built). run x ys) e ∙ sym (run_both b xs ys) ∙ ap (run b) (sym (items_both ps qs))

-- where one is refused, those behind it change nothing
pub parts_stop : (b d : Built) (ps qs : List Part) (e : BuildError) → d ≡ run b (calls_of_items (items_of ps)) → d.refusal ≡ Some e → d ≡ run b (calls_of_items (items_of (ps ++ qs)))
parts_stop b d ps qs e f g = parts_more b d d ps qs f (sym (sticks d (calls_of_items (items_of qs)) e g))

-- an attribute opens, these calls are made, and it is closed
pub inside_run : (b opened filled closed : Built) (n : ℕ) (cs : List Call) → opened ≡ building.open_attr b n no_flags → filled ≡ run opened cs → closed ≡ building.close filled
    → closed ≡ run b (open_attr n no_flags ∷ (cs ++ (close ∷ [])))
inside_run b opened filled closed n cs e f g =
    g ∙ ap (λ (x : Built). building.close x) (f ∙ ap (λ (x : Built). run x cs) e) ∙ sym (run_both (building.open_attr b n no_flags) cs (close ∷ []))

-- a message begins, has these parts, and ends
pub request_made : (b begun filled ended : Built) (op : Operation) (kind flags seq : ℕ) (h : AnyHead) (ps : List Part)
    → begun ≡ building.begin b kind flags seq 0 h → filled ≡ run begun (calls_of_items (items_of ps)) → ended ≡ building.end filled → kind ≡ type_of op (family_of h) → flags ≡ flags_of op
    → ended ≡ with_message b (request op seq h ps)
request_made b begun filled ended op kind flags seq h ps e f g k l =
    let cs = calls_of_items (items_of ps) in
    let a = building.begin b (type_of op (family_of h)) (flags_of op) seq 0 h in
    let starts : begun ≡ a = e ∙ ap (λ (n : ℕ). building.begin b n flags seq 0 h) k ∙ ap (λ (n : ℕ). building.begin b (type_of op (family_of h)) n seq 0 h) l in
    g ∙ ap (λ (x : Built). building.end x) (f ∙ ap (λ (x : Built). run x cs) starts) ∙ sym (run_both a cs (end ∷ []))

pub request_run : (b begun filled ended : Built) (op : Operation) (kind flags seq : ℕ) (h : AnyHead) (ps : List Part)
    → begun ≡ building.begin b kind flags seq 0 h → Puts begun ps filled → ended ≡ building.end filled → kind ≡ type_of op (family_of h) → flags ≡ flags_of op
    → ended ≡ with_message b (request op seq h ps)
request_run b begun filled ended op kind flags seq h ps e f g k l = request_made b begun filled ended op kind flags seq h ps e (parts_run begun ps filled f) g k l
