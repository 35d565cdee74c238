-- A builder's calls behind its innermost head, whatever is open around it.
use Rattle.nl_frame.proofs.Common.{◌≡◌, ℕ, ◌+◌, ◌≤◌, List, [], ◌∷◌, ◌++◌, length, take, drop, Option, Some, None, Result, Ok, Err, refl, sym, ap, ◌∙◌, arith, length-append, length-drop, length-take, take-take, take_at, AttrFlags, Content, OpenHead, BuilderTop, BuildError, over, AreWithin, HasOpened, parts_with}
use Rattle.nl_attr.specs.declared.tree.Content.TheVariants as content
use Rattle.nl_frame.specs.Building.{Built, AreOpen, attr_begun, bytes_refusal, content_or_bytes, grown, held, hop_refusal, hop_refusal_in, lacks, levels_in, open_attr, open_refusal, opened, or_next, order_of, settled, top}
use Rattle.nl_frame.proofs.Opens.{are_open_more, drop_twice, has_room, room_for}

-- there is room for what is left of some bytes behind the first of them
pub lacks_behind : (b x : Built) (xs : List ℕ) (n m : ℕ) → lacks b n ≡ None → x ≡ grown b xs → length xs + m ≤ n → lacks x m ≡ None
lacks_behind b x xs n m e f h =
    let r = has_room b n e in
    ap (λ (y : Built). lacks y m) f ∙ room_for (grown b xs) m (omega (arith, r.0, h, length-drop (length xs) b.free)) (omega (arith, r.1, h, length-append b.front xs))

-- the heads around the innermost have no part in why an attribute is refused
pub same_refusal : (b : Built) (hs : List OpenHead) (held : Result Content BuildError) (n : ℕ) → bytes_refusal b held n ≡ bytes_refusal (record b { heads = hs }) held n
same_refusal b hs (Err e) n = refl
same_refusal b hs (Ok content.Bytes) n = refl
same_refusal b hs (Ok (content.List c)) n = refl
same_refusal b hs (Ok content.Hops) n = refl

-- the innermost head, and those around it
pub top_is : (hs : List OpenHead) (h : OpenHead) → top hs ≡ Some h → hs ≡ h ∷ drop 1 hs
top_is [] h e = absurd (cc)
top_is (k ∷ hs) h e = let one : k ≡ h = cc in ap (λ x. x ∷ hs) one

-- ---- a head opens

-- what a call makes that isn't refused
pub goes_as : (b x next : Built) (r : Option BuildError) → r ≡ None → x ≡ next → x ≡ settled b r next
goes_as b x next r e f = f ∙ sym (ap (λ (o : Option BuildError). settled b o next) e)

-- an attribute opens that holds this
pub attr_opened_as : (b x : Built) (n : ℕ) (f : AttrFlags) (r : Result Content BuildError) (c : Content) (bytes : List ℕ) → r ≡ Ok c
    → bytes ≡ attr_begun (order_of b) n f → x ≡ opened b c bytes → x ≡ opened b (content_or_bytes r) (attr_begun (order_of b) n f)
attr_opened_as b x n f r c bytes ok head e =
    let same : content_or_bytes r ≡ c = ap content_or_bytes ok in
    e ∙ ap (opened b c) head ∙ ap (λ (k : Content). opened b k (attr_begun (order_of b) n f)) (sym same)

pub attr_opened : (b x : Built) (n : ℕ) (f : AttrFlags) (r : Result Content BuildError) (c : Content) (bytes : List ℕ) → r ≡ held (top b.heads) n f → r ≡ Ok c → or_next b.refusal (open_refusal b r) ≡ None
    → bytes ≡ attr_begun (order_of b) n f → x ≡ opened b c bytes → x ≡ open_attr b n f
attr_opened b x n f r c bytes is ok none head e =
    let h = held (top b.heads) n f in
    let goes = ap (λ (y : Result Content BuildError). or_next b.refusal (open_refusal b y)) (sym is) ∙ none in
    goes_as b x (opened b (content_or_bytes h) (attr_begun (order_of b) n f)) _ goes (attr_opened_as b x n f h c bytes (sym is ∙ ok) head e)

-- one more is among the heads that are open
pub one_more_open : (D m n : ℕ) (h : OpenHead) (hs : List OpenHead) → h.start + 4 ≤ n → length hs + levels_in h.content ≤ D → m ≤ n → AreOpen D m hs → AreOpen D n (h ∷ hs)
one_more_open D m n h hs at level le o = (at, level, are_open_more D m n hs le o)

-- a next hop stands a level deeper than the heads around what holds it
pub hops_levels : (b : Built) (D m : ℕ) (h : Option OpenHead) (hs : List OpenHead) → hop_refusal b h ≡ None → top hs ≡ h → AreOpen D m hs → length hs ≤ D
hops_levels b D m None hs e t o = absurd (cc)
hops_levels b D m (Some h) [] e t o = absurd (cc)
hops_levels b D m (Some h) (k ∷ hs) e t o =
    let one : k ≡ h = cc in
    let which = in_hops h.content e in
    omega (arith, o.1, ap (λ (x : OpenHead). levels_in x.content) one, ap levels_in which)
  where
    in_hops : (k : Content) → hop_refusal_in b k ≡ None → k ≡ content.Hops
    in_hops content.Hops z = refl
    in_hops (content.List c) z = absurd (cc)
    in_hops content.Bytes z = absurd (cc)

-- bytes that are accepted change nothing before them or behind them
pub has_opened : (t u : BuilderTop) (out new : List ℕ) (h : OpenHead) (c : Content) (bytes : List ℕ) → AreWithin t out → AreWithin u new → over (parts_with u (h ∷ [])) new ≡ opened (over (parts_with t []) out) c bytes
    → u ≡ record t { len = u.len; head = Some h } → t.refusal ≡ None → HasOpened t u out new h
has_opened t u out new h c bytes fits within built rest none =
    let front : take u.len new ≡ take t.len out ++ bytes = ap (λ (b : Built). b.front) built in
    let grows : u.len ≡ t.len + length bytes = omega (arith, ap (length {A = ℕ}) front, length-append (take t.len out) bytes, length-take u.len new, length-take t.len out, fits.0, within.0) in
    let free : drop u.len new ≡ drop (length bytes) (drop t.len out) = ap (λ (b : Built). b.free) built in
    let le : t.len ≤ u.len = omega (arith, grows) in
    record {
      rest = rest;
      none = none;
      grows = le;
      before = sym (take-take t.len u.len new le) ∙ ap (take t.len) front ∙ take_at (take t.len out) bytes t.len (omega (arith, length-take t.len out, fits.0));
      behind = free ∙ drop_twice (length bytes) t.len out ∙ ap (λ k. drop k out) (sym grows);
    }
