-- What a builder's parts keep of a call that is made over what they are but for the heads around the innermost.
use Rattle.nl_frame.proofs.Common.{◌≡◌, ◌≤◌, ℕ, ℤ, List, [], ◌∷◌, Option, Some, None, Result, Ok, Err, refl, sym, ap, subst, ◌∙◌, arith, FitsSigned, OnOk, OnErr, w32, OpenHead, BuilderTop, BuildError, Built, AreOpen, answer, no_flags, put_hop, Call, IsCall, called, close, open_hop, put, put_by, Draft, Holds, Bounds, Parts, AreParts, over, AreWithin, Opens, heads_after, left, left_with, parts_with, refusal_of, top_of}
use Rattle.nl_frame.specs.Draft as draft
use Rattle.nl_frame.proofs.Running.{called_holds, runs_hold}

-- a call that leaves no refusal puts what it puts
pub puts_by : {L : Bounds} (b x : Built) (d : Draft) (c : Call) → IsCall c → x ≡ called b c → x.refusal ≡ None → Holds L b d → Holds L x (put_by d c)
puts_by {L} b x d c is e none h = subst (λ (y : Built). Holds L y (put_by d c)) (sym e) (called_holds b d c is h (ap (λ (y : Built). y.refusal) (sym e) ∙ none))

-- a next hop that is put whole is the calls that put its parts
pub hop_puts : {L : Bounds} (b x : Built) (d : Draft) (f c : ℕ) (i : ℤ) (n : ℕ) (bs : List ℕ) → FitsSigned w32 i → x ≡ put_hop b f c i n bs → x.refusal ≡ None → Holds L b d → Holds L x (draft.put_hop d f c i n bs)
hop_puts {L} b x d f c i n bs fits e none h =
    let calls = open_hop f c i ∷ put n no_flags bs ∷ close ∷ [] in
    subst (λ (y : Built). Holds L y (draft.put_hop d f c i n bs)) (sym e) (runs_hold b d L calls (fits, (tt, (tt, tt))) h (ap (λ (y : Built). y.refusal) (sym e) ∙ none))

-- what holds where a call leaves no refusal holds where it answers none
pub where_ok : (r : Result (Unit {0}) BuildError) (o : Option BuildError) (P : Type 0) → r ≡ answer o → (o ≡ None → P) → OnOk r P
where_ok r None P e f = subst (λ (x : Result (Unit {0}) BuildError). OnOk x P) (sym e) (f refl)
where_ok r (Some x) P e f = subst (λ (y : Result (Unit {0}) BuildError). OnOk y P) (sym e) tt

pub if_opened : (r : Result OpenHead BuildError) (P : Type 0) → refusal_of r ≡ None → OnOk r P → P
if_opened (Ok h) P e x = x
if_opened (Err f) P e x = absurd (cc)

module _ (p : Parts) (t u : BuilderTop) (v : t ≡ top_of p) where
  -- ---- of a call that puts something

  pub put_over : (q : Parts) (out new : List ℕ) (f : Built → Built) → u ≡ record t { len = u.len; refusal = u.refusal } → q ≡ record p { len = u.len; refusal = u.refusal }
      → over (parts_with u p.heads) new ≡ f (over (parts_with t p.heads) out) → over q new ≡ f (over p out)
  put_over q out new f rest kept built =
      ap (λ (x : Parts). over x new) kept
      ∙ ap (λ (l : Bounds). over (record { bounds = l; len = u.len; heads = p.heads; refusal = u.refusal }) new) (sym (ap (λ (x : BuilderTop). x.limits) rest ∙ ap (λ (x : BuilderTop). x.limits) v))
      ∙ built ∙ ap (λ (x : BuilderTop). f (over (parts_with x p.heads) out)) v

  -- ---- of one that opens a head

  module _ (out new : List ℕ) where
    pub opened_limit : (r : Result OpenHead BuildError) → Opens t u out new r → AreWithin u new → u.len ≤ p.bounds.datagram
    opened_limit (Ok h) o fits = omega (arith, fits.1, ap (λ (x : BuilderTop). x.limits.datagram) o.rest, ap (λ (x : BuilderTop). x.limits.datagram) v)
    opened_limit (Err e) o fits = omega (arith, fits.1, ap (λ (x : BuilderTop). x.limits.datagram) o.0, ap (λ (x : BuilderTop). x.limits.datagram) v)

    pub opened_accepted : (r : Result OpenHead BuildError) → Opens t u out new r → OnOk r (p.refusal ≡ None)
    opened_accepted (Ok h) o = sym (ap (λ (x : BuilderTop). x.refusal) v) ∙ o.none
    opened_accepted (Err e) o = tt

    pub opened_refused : (r : Result OpenHead BuildError) → Opens t u out new r → OnErr r (u.len ≡ p.len)
    opened_refused (Ok h) o = tt
    opened_refused (Err e) o = ap (λ (x : BuilderTop). x.len) o.0 ∙ ap (λ (x : BuilderTop). x.len) v

    pub opened_parts : (q : Parts) (r : Result OpenHead BuildError) → Opens t u out new r → q ≡ record p { len = u.len; heads = heads_after r p.heads; refusal = refusal_of r } → q ≡ parts_with u (heads_after r p.heads)
    opened_parts q (Ok h) o kept =
        let made : Bounds → Option BuildError → Parts = λ l e. record { bounds = l; len = u.len; heads = h ∷ p.heads; refusal = e } in
        kept ∙ ap (λ (l : Bounds). made l None) (sym (ap (λ (x : BuilderTop). x.limits) o.rest ∙ ap (λ (x : BuilderTop). x.limits) v))
        ∙ ap (made u.limits) (sym (ap (λ (x : BuilderTop). x.refusal) o.rest ∙ o.none))
    opened_parts q (Err e) o kept =
        let made : Bounds → Option BuildError → Parts = λ l r. record { bounds = l; len = u.len; heads = p.heads; refusal = r } in
        kept ∙ ap (λ (l : Bounds). made l (Some e)) (sym (ap (λ (x : BuilderTop). x.limits) o.0 ∙ ap (λ (x : BuilderTop). x.limits) v))
        ∙ ap (made u.limits) (sym (ap (λ (x : BuilderTop). x.refusal) o.0))

    pub opened_over : (q : Parts) (r : Result OpenHead BuildError) (f : Built → Built) → Opens t u out new r → q ≡ record p { len = u.len; heads = heads_after r p.heads; refusal = refusal_of r }
        → over (parts_with u (heads_after r p.heads)) new ≡ f (over (parts_with t p.heads) out) → over q new ≡ f (over p out)
    opened_over q r f o kept built = ap (λ (x : Parts). over x new) (opened_parts q r o kept) ∙ built ∙ ap (λ (x : BuilderTop). f (over (parts_with x p.heads) out)) v

  -- the heads stay open
  pub opened_inside : (r : Result OpenHead BuildError) → (AreOpen t.limits.shape.depth t.len p.heads → AreOpen t.limits.shape.depth u.len (heads_after r p.heads)) → AreParts p
      → AreOpen p.bounds.shape.depth u.len (heads_after r p.heads)
  opened_inside r f parts = subst (λ (x : BuilderTop). AreOpen x.limits.shape.depth x.len p.heads → AreOpen x.limits.shape.depth u.len (heads_after r p.heads)) v f parts.2

-- ---- of a call that closes the innermost head

module _ (p q : Parts) (t : BuilderTop) (v : t ≡ top_of p) (out new : List ℕ) where
  pub closed_over : (r : Option BuildError) (f : Built → Built) → q ≡ record p { heads = left r p.heads; refusal = r } → over (left_with t r p.heads) new ≡ f (over (parts_with t p.heads) out) → over q new ≡ f (over p out)
  closed_over r f kept built =
      ap (λ (x : Parts). over x new) kept ∙ sym (ap (λ (x : BuilderTop). over (left_with x r p.heads) new) v)
      ∙ built ∙ ap (λ (x : BuilderTop). f (over (parts_with x p.heads) out)) v
