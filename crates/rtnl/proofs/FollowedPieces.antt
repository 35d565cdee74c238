-- Pieces of an input that is followed, line by line.
use Rattle.std.proofs.Common.{◌≡◌, ℕ, Bool, true, false, List, [], ◌∷◌, ◌++◌, Option, Some, None, Result, Ok, Err, refl, sym, ap, ◌∙◌, subst, append_assoc, append-nil, inl, inr}
use Rattle.rtnl.proofs.Common.{Consumes, IsAtEnd, Keeps, Follows, FollowsAll, FollowsPiece, GoesOn, HasRead, HeardLine, Tells, TellsLine, TellsOne, TellsPart, TellsSome, TellsUpTo, said_of, with_part, lines_of, Gains, Read, StopsOnce, all_moved, one_more, RunError, ReadFault, WriteFault, Memory, Followed}
use Rattle.rtnl.proofs.Following.{follows_last, follows_line, follows_part, follows_some, goes_more, more_lines, part_of_last, part_of_line, read_more, stops_at_last, stops_at_line, told_behind}

-- a piece behind an input, in the parts that it is gone over in
whole_piece : (input done line more piece : List ℕ) → done ++ (line ++ more) ≡ piece → (input ++ done) ++ (line ++ more) ≡ input ++ piece
whole_piece input done line more piece is = append_assoc input done (line ++ more) ∙ ap (λ x. input ++ x) is

module _ {W : Type 0} (is_stalled : W → Type 0) (stalls failures : W → ℕ) where
  -- nothing was written between
  abbrev pub Sound : W → W → Type 0
  Sound to_old to_new = (failures to_new ≡ failures to_old) × (stalls to_new ≡ stalls to_old)

  -- what stops once stops once behind calls that did not fail
  pub stops_later : (to_old to_mid to_new : W) → Sound to_old to_mid → StopsOnce is_stalled stalls failures to_mid to_new → StopsOnce is_stalled stalls failures to_old to_new
  stops_later to_old to_mid to_new sound (inl h) = inl (h.0 ∙ ap one_more sound.0, h.1 ∙ sound.1)
  stops_later to_old to_mid to_new sound (inr h) = inr (h.0, h.1 ∙ ap one_more sound.1, h.2 ∙ sound.0)

module _ {Y X T B : Type 0} (says : List ℕ → Result (Option Y) ℕ) (Is : T → Y → X → T → Type 0) (text : ℕ → Y → X → List ℕ) (is_accepted : X → Bool) (ends : T → Bool) (heard : B → Option (List HeardLine)) (is_over : B → Type 0)
    {W : Type 0} (taken : W → Option (List ℕ)) (is_stalled : W → Type 0) (stalls failures : W → ℕ)
    (before done piece : List ℕ) (kept : Option (List ℕ)) (a m : T) (s : Followed) (g k : B) (old : Option (List ℕ)) (to_old to_mid : W)
    (h : Follows says Is text is_accepted ends heard is_over (before ++ done) kept a m s g k old (taken to_mid)) (on : GoesOn ends is_over m k) (sound : Sound is_stalled stalls failures to_old to_mid) where
  module _ (part more : List ℕ) (one : lines_of part ≡ part ∷ []) (is : done ++ ((part ++ 10 ∷ []) ++ more) ≡ piece) where
    all : (before ++ done) ++ ((part ++ 10 ∷ []) ++ more) ≡ before ++ piece
    all = whole_piece before done (part ++ 10 ∷ []) more piece is

    -- a line was told of, and the next one follows
    pub piece_more : (b : T) (t : Followed) (l : B) (to_new : W) → TellsOne says Is text is_accepted ends heard is_over (with_part kept part) (said_of says (with_part kept part)) true m b s t k l (taken to_mid) (taken to_new)
        → Follows says Is text is_accepted ends heard is_over (before ++ (done ++ (part ++ 10 ∷ []))) (Some []) a b t g l old (taken to_new) × GoesOn ends is_over b l
    piece_more b t l to_new told = (
      subst (λ x. Follows says Is text is_accepted ends heard is_over x (Some []) a b t g l old (taken to_new)) (append_assoc before done (part ++ 10 ∷ []))
          (follows_line says Is text is_accepted ends heard is_over (before ++ done) kept a m s g k old (taken to_mid) h on part one true b t l (taken to_new) told),
      goes_more says Is text is_accepted ends heard is_over (with_part kept part) m b s t k l (taken to_mid) (taken to_new) (said_of says (with_part kept part)) told on,
    )

    -- or what is told stops at it
    pub piece_ended : (b : T) (t : Followed) (l : B) (to_new : W) (r : Option (List ℕ)) → TellsLine says Is text is_accepted ends heard is_over taken is_stalled stalls failures (with_part kept part) m b s t k l to_mid to_new (Ok false)
        → FollowsPiece says Is text is_accepted ends heard is_over taken is_stalled stalls failures before piece r a b t g l old to_old to_new (Ok false)
    piece_ended b t l to_new r tells =
        record {
          follows = λ e. cc e;
          ended = λ e. stops_at_line says Is text is_accepted ends heard is_over (before ++ done) kept a m s g k old (taken to_mid) h on part one b t l (taken to_new) tells.told before piece more all (more_lines before done);
          memory = λ e. cc e;
          write_fault = λ e. cc e;
          sound = (tells.sound.0 ∙ sound.0, tells.sound.1 ∙ sound.1);
          errors = tt;
          once = λ e. cc e;
        }

    -- or the telling of it failed
    pub piece_failed : (b : T) (t : Followed) (l : B) (to_new : W) (r : Option (List ℕ)) (u : Followed) (e : RunError) → TellsLine says Is text is_accepted ends heard is_over taken is_stalled stalls failures (with_part kept part) m b s t k l to_mid to_new (Err e)
        → FollowsPiece says Is text is_accepted ends heard is_over taken is_stalled stalls failures before piece r a b u g l old to_old to_new (Err e)
    piece_failed b t l to_new r u e tells =
        record {
          follows = λ f. cc f;
          ended = λ f. cc f;
          memory = λ f. (
            m,
            s,
            subst (λ x. TellsSome says Is text is_accepted ends heard is_over x a m s g l old (taken to_new)) all
                (subst (λ w. TellsSome says Is text is_accepted ends heard is_over ((before ++ done) ++ ((part ++ 10 ∷ []) ++ more)) a m s g l old (taken w)) (sym (tells.memory f))
                (subst (λ c. TellsSome says Is text is_accepted ends heard is_over ((before ++ done) ++ ((part ++ 10 ∷ []) ++ more)) a m s g c old (taken to_mid)) (sym tells.unheard)
                (follows_some says Is text is_accepted ends heard is_over (before ++ done) kept a m s g k old (taken to_mid) h ((part ++ 10 ∷ []) ++ more)))),
            (on.0, subst (λ c. is_over c → ⊥) (sym tells.unheard) on.1),
          );
          write_fault = λ f.
              let w = (tells.write_fault f).1 in (
                subst (λ x. TellsPart says Is text is_accepted ends heard is_over x a b g l old (taken to_new)) all
                    (part_of_line says Is text is_accepted ends heard is_over (before ++ done) kept a m s g k old (taken to_mid) h on part more w.0 w.1 b l (taken to_new) one w.2 w.3 tells.unheard w.4),
                subst (λ c. is_over c → ⊥) (sym tells.unheard) on.1,
              );
          sound = tt;
          errors = tells.errors;
          once = λ f. stops_later is_stalled stalls failures to_old to_mid to_new sound (tells.write_fault f).0;
        }

  -- what is left has no newline, and is kept
  module _ (left : List ℕ) (one : lines_of left ≡ left ∷ []) (is : done ++ left ≡ piece) where
    whole : (before ++ done) ++ left ≡ before ++ piece
    whole = append_assoc before done left ∙ ap (λ x. before ++ x) is

    pub piece_kept : (r : Option (List ℕ)) → r ≡ with_part kept left → FollowsPiece says Is text is_accepted ends heard is_over taken is_stalled stalls failures before piece r a m s g k old to_old to_mid (Ok true)
    piece_kept r kept_is =
        record {
          follows = λ e. (
            subst (λ x. Follows says Is text is_accepted ends heard is_over x r a m s g k old (taken to_mid)) whole (subst (λ x. Follows says Is text is_accepted ends heard is_over ((before ++ done) ++ left) x a m s g k old (taken to_mid)) (sym kept_is)
                (follows_part says Is text is_accepted ends heard is_over (before ++ done) kept a m s g k old (taken to_mid) h left one)),
            on,
          );
          ended = λ e. cc e;
          memory = λ e. cc e;
          write_fault = λ e. cc e;
          sound = sound;
          errors = tt;
          once = λ e. cc e;
        }

    -- or there is no memory for that
    pub piece_lost : (r : Option (List ℕ)) → FollowsPiece says Is text is_accepted ends heard is_over taken is_stalled stalls failures before piece r a m s g k old to_old to_mid (Err Memory)
    piece_lost r =
        record {
          follows = λ e. cc e;
          ended = λ e. cc e;
          memory = λ e. (m, s, subst (λ x. TellsSome says Is text is_accepted ends heard is_over x a m s g k old (taken to_mid)) whole (follows_some says Is text is_accepted ends heard is_over (before ++ done) kept a m s g k old (taken to_mid) h left), on);
          write_fault = λ e. cc e;
          sound = tt;
          errors = inr refl;
          once = λ e. cc e;
        }

-- ---- a whole run

-- an error by itself, whatever is answered without one
as_error : {A C : Type 0} (e d : RunError) → ◌≡◌ {A = Result A RunError} (Err e) (Err d) → ◌≡◌ {A = Result C RunError} (Err e) (Err d)
as_error e d f = let same : e ≡ d = cc in ap Err same

module _ {Y X T B : Type 0} (says : List ℕ → Result (Option Y) ℕ) (Is : T → Y → X → T → Type 0) (text : ℕ → Y → X → List ℕ) (is_accepted : X → Bool) (ends : T → Bool) (heard : B → Option (List HeardLine)) (is_over : B → Type 0)
    {S W : Type 0} (left : S → Option (List ℕ)) (is_ended : S → Type 0) (failed_reads : S → ℕ) (reads_of : S → Option (List Read))
    (taken : W → Option (List ℕ)) (is_stalled : W → Type 0) (stalls failed_writes : W → ℕ)
    (from_old from_mid from_new : S) (to_old to_mid to_new : W) (a m b : T) (g k h : B) (input piece : List ℕ)
    (before : HasRead says Is text ends left reads_of a (taken to_old) from_old from_mid input) (next : Consumes (left from_mid) (left from_new) piece)
    (seen : Gains (reads_of from_mid) (reads_of from_new) (record { written = taken to_mid; moved = piece } ∷ []))
    (read : failed_reads from_mid ≡ failed_reads from_old) (same : failed_reads from_new ≡ failed_reads from_mid)
    (written : Sound is_stalled stalls failed_writes to_old to_mid)
    (kept : Option (List ℕ)) (s : Followed) (follows : Follows says Is text is_accepted ends heard is_over input kept a m s g k (taken to_old) (taken to_mid)) (on : GoesOn ends is_over m k) where
  -- the piece was read behind the input
  pub all_read : (now : HasRead says Is text ends left reads_of a (taken to_old) from_old from_new (input ++ piece)) × (now.reads ≡ before.reads ++ record { written = taken to_mid; moved = piece } ∷ [])
  all_read =
      read_more says Is text ends left reads_of a (taken to_old) (taken to_mid) from_old from_mid from_new input piece before
      (told_behind says Is text is_accepted ends heard is_over input kept a m s g k (taken to_old) (taken to_mid) follows on.0) next seen

  abbrev EndsSo : Result Followed RunError → Type 0
  EndsSo = FollowsAll says Is text is_accepted ends heard is_over left is_ended failed_reads reads_of taken is_stalled stalls failed_writes a b from_old from_new to_old to_new g h

  -- the lines behind the one at which what is told stops are not told
  up_to : (t : Followed) → TellsUpTo says Is text is_accepted ends heard is_over input piece a b t g h (taken to_old) (taken to_new) → (earlier : List Read) × (last : Read) × (all_read.0.reads ≡ earlier ++ last ∷ [])
      × TellsUpTo says Is text is_accepted ends heard is_over (all_moved earlier) last.moved a b t g h (taken to_old) (taken to_new)
  up_to t tells = (before.reads, record { written = taken to_mid; moved = piece }, all_read.1, subst (λ i. TellsUpTo says Is text is_accepted ends heard is_over i piece a b t g h (taken to_old) (taken to_new)) (sym before.moved) tells)

  module _ (r : Option (List ℕ)) (t : Followed) where
    pub all_ended : FollowsPiece says Is text is_accepted ends heard is_over taken is_stalled stalls failed_writes input piece r a b t g h (taken to_old) to_mid to_new (Ok false) → EndsSo (Ok t)
    all_ended p =
        record {
          input = input ++ piece;
          read = all_read.0;
          told = inr (up_to t (p.ended refl));
          sound = (same ∙ read, p.sound.0 ∙ written.0, p.sound.1 ∙ written.1);
          errors = tt;
          read_fault = λ f. cc f;
          write_fault = λ f. cc f;
          memory = λ f. cc f;
        }

    -- a line of the piece was not told of whole
    pub all_failed : (e : RunError) → FollowsPiece says Is text is_accepted ends heard is_over taken is_stalled stalls failed_writes input piece r a b t g h (taken to_old) to_mid to_new (Err e) → EndsSo (Err e)
    all_failed e p =
        record {
          input = input ++ piece;
          read = all_read.0;
          told = tt;
          sound = tt;
          errors = inr p.errors;
          read_fault = λ f. absurd (elim p.errors [ inl x ↦ cc (f, x) | inr x ↦ cc (f, x) ]);
          write_fault = λ f. let w = p.write_fault (as_error e WriteFault f) in (same ∙ read, stops_later is_stalled stalls failed_writes to_old to_mid to_new written (p.once (as_error e WriteFault f)), w.0, w.1);
          memory = λ f. (same ∙ read, p.memory (as_error e Memory f));
        }

  -- nothing more has come
  module _ (none : piece ≡ []) where
    last : Follows says Is text is_accepted ends heard is_over (input ++ piece) (with_part kept []) a m s g k (taken to_old) (taken to_mid)
    last = subst (λ p. Follows says Is text is_accepted ends heard is_over (input ++ p) (with_part kept []) a m s g k (taken to_old) (taken to_mid)) (sym none) (follows_part says Is text is_accepted ends heard is_over input kept a m s g k (taken to_old) (taken to_mid) follows [] refl)

    -- the last line was told of at the end of the input
    pub all_told : (goes_on : Bool) (t : Followed) → TellsLine says Is text is_accepted ends heard is_over taken is_stalled stalls failed_writes (with_part kept []) m b s t k h to_mid to_new (Ok goes_on) → is_ended from_new → IsAtEnd (left from_new) → EndsSo (Ok t)
    all_told goes_on t tells end none_left = by_case goes_on tells.told where
      told_by : (c : Bool) → TellsOne says Is text is_accepted ends heard is_over (with_part kept []) (said_of says (with_part kept [])) c m b s t k h (taken to_mid) (taken to_new) → Tells says Is text is_accepted ends heard is_over (lines_of (input ++ piece)) a b t g h (taken to_old) (taken to_new)
      told_by c one = follows_last says Is text is_accepted ends heard is_over (input ++ piece) (with_part kept []) a m s g k (taken to_old) (taken to_mid) last on c b t h (taken to_new) one

      by_case : (c : Bool) → TellsOne says Is text is_accepted ends heard is_over (with_part kept []) (said_of says (with_part kept [])) c m b s t k h (taken to_mid) (taken to_new) → EndsSo (Ok t)
      by_case true one =
          record {
            input = input ++ piece;
            read = all_read.0;
            told = inl ((end, none_left, same ∙ read), told_by true one, goes_more says Is text is_accepted ends heard is_over (with_part kept []) m b s t k h (taken to_mid) (taken to_new) (said_of says (with_part kept [])) one on);
            sound = (same ∙ read, tells.sound.0 ∙ written.0, tells.sound.1 ∙ written.1);
            errors = tt;
            read_fault = λ f. cc f;
            write_fault = λ f. cc f;
            memory = λ f. cc f;
          }
      by_case false one =
          record {
            input = input ++ piece;
            read = all_read.0;
            told = inr (up_to t (stops_at_last says Is text is_accepted ends heard is_over (input ++ piece) (with_part kept []) a m s g k (taken to_old) (taken to_mid) last on input piece refl (more_lines input piece) b t h (taken to_new) one));
            sound = (same ∙ read, tells.sound.0 ∙ written.0, tells.sound.1 ∙ written.1);
            errors = tt;
            read_fault = λ f. cc f;
            write_fault = λ f. cc f;
            memory = λ f. cc f;
          }

    -- or not whole
    pub last_failed : (t : Followed) (e : RunError) → TellsLine says Is text is_accepted ends heard is_over taken is_stalled stalls failed_writes (with_part kept []) m b s t k h to_mid to_new (Err e) → EndsSo (Err e)
    last_failed t e tells =
        record {
          input = input ++ piece;
          read = all_read.0;
          told = tt;
          sound = tt;
          errors = inr tells.errors;
          read_fault = λ f. absurd (elim tells.errors [ inl x ↦ cc (f, x) | inr x ↦ cc (f, x) ]);
          write_fault = λ f.
              let w = tells.write_fault (as_error e WriteFault f) in (
                same ∙ read,
                stops_later is_stalled stalls failed_writes to_old to_mid to_new written w.0,
                part_of_last says Is text is_accepted ends heard is_over (input ++ piece) (with_part kept []) a m s g k (taken to_old) (taken to_mid) last on w.1.0 w.1.1 b h (taken to_new) w.1.2 w.1.3 tells.unheard w.1.4,
                subst (λ c. is_over c → ⊥) (sym tells.unheard) on.1,
              );
          memory = λ f. (
            same ∙ read,
            (
              m,
              s,
              subst (λ c. TellsSome says Is text is_accepted ends heard is_over (input ++ piece) a m s g c (taken to_old) (taken to_new)) (sym tells.unheard)
                  (subst (λ w. TellsSome says Is text is_accepted ends heard is_over (input ++ piece) a m s g k (taken to_old) (taken w)) (sym (tells.memory (as_error e Memory f)))
                  (follows_some says Is text is_accepted ends heard is_over input kept a m s g k (taken to_old) (taken to_mid) follows piece)),
              (on.0, subst (λ c. is_over c → ⊥) (sym tells.unheard) on.1),
            ),
          );
        }

-- ---- a read that failed

consumes_none : (x y : Option (List ℕ)) → Keeps x y → Consumes x y []
consumes_none None y keeps = tt
consumes_none (Some x) None keeps = absurd keeps
consumes_none (Some x) (Some y) keeps = sym keeps

module _ {Y X T B : Type 0} (says : List ℕ → Result (Option Y) ℕ) (Is : T → Y → X → T → Type 0) (text : ℕ → Y → X → List ℕ) (is_accepted : X → Bool) (ends : T → Bool) (heard : B → Option (List HeardLine)) (is_over : B → Type 0)
    {S W : Type 0} (left : S → Option (List ℕ)) (is_ended : S → Type 0) (failed_reads : S → ℕ) (reads_of : S → Option (List Read))
    (taken : W → Option (List ℕ)) (is_stalled : W → Type 0) (stalls failed_writes : W → ℕ)
    (from_old from_mid from_new : S) (to_old to_mid : W) (a m : T) (g k : B) (input : List ℕ)
    (before : HasRead says Is text ends left reads_of a (taken to_old) from_old from_mid input) (keeps : Keeps (left from_mid) (left from_new))
    (seen : Gains (reads_of from_mid) (reads_of from_new) (record { written = taken to_mid; moved = [] } ∷ []))
    (read : failed_reads from_mid ≡ failed_reads from_old) (failed : failed_reads from_new ≡ one_more (failed_reads from_mid))
    (kept : Option (List ℕ)) (s : Followed) (follows : Follows says Is text is_accepted ends heard is_over input kept a m s g k (taken to_old) (taken to_mid)) (on : GoesOn ends is_over m k) where
  -- the whole lines of what was read are told
  pub read_failed : FollowsAll says Is text is_accepted ends heard is_over left is_ended failed_reads reads_of taken is_stalled stalls failed_writes a m from_old from_new to_old to_mid g k (Err ReadFault)
  read_failed =
      record {
        input = input ++ [];
        read =
            (read_more says Is text ends left reads_of a (taken to_old) (taken to_mid) from_old from_mid from_new input [] before
            (told_behind says Is text is_accepted ends heard is_over input kept a m s g k (taken to_old) (taken to_mid) follows on.0) (consumes_none (left from_mid) (left from_new) keeps) seen).0;
        told = tt;
        sound = tt;
        errors = inl refl;
        read_fault = λ f. (inl (failed ∙ ap one_more read), (kept, s, subst (λ x. Follows says Is text is_accepted ends heard is_over x kept a m s g k (taken to_old) (taken to_mid)) (sym (append-nil input)) follows, on));
        write_fault = λ f. cc f;
        memory = λ f. cc f;
      }
