use Rattle.rtnl_c.proofs.Common.{◌≡◌, None, Some, slice_index_or, arith, ap, refl, sym, ◌∙◌, levels_in, content_in}
use Rattle.rtnl_c.proofs.Keeping.{at_place, content_back, content_said, few_heads, one_more}
use Rattle.rtnl_c.proofs.building.innermost.Goals.{then-kept-lt4-via-then-kept-lt4, then-kept-lt4-via-else-kept-lt4+then-start-kept, then-kept-lt4-via-else-kept-lt4+else-start-kept+then-index-levels_inside}
use Rattle.rtnl_c.proofs.building.innermost.Goals as goal

pub returns-then-kept-gt-MOST_OPEN : goal.returns-then-kept-gt-MOST_OPEN
returns-then-kept-gt-MOST_OPEN c = λ hs h. omega (arith, h.count, few_heads _ _ hs h.open_heads, c.requires, c.if-kept-gt-MOST_OPEN.true)

pub returns-in_default : goal.returns-in_default
returns-in_default c = λ hs h.
    let k = c.args.kept.now in
    let i = c.loop-index.index in
    let x = at_place k.starts k.contents k.depth k.len hs i (omega (arith, h.count, c.loop-index-test.true)) h.heads h.open_heads in
    let said : content_in (slice_index_or k.contents i 0) ≡ Some x.head.content = ap content_in (ap (λ n. slice_index_or k.contents n 0) (sym x.count) ∙ x.kept.1) ∙ content_back x.head.content in
    let both : None ≡ Some x.head.content = sym c.in_default.is ∙ c.content_by_number.ensures ∙ said in
    cc

pub returns-then-kept-lt4 : goal.returns-then-kept-lt4
returns-then-kept-lt4 c = λ hs h.
    let k = c.args.kept.now in
    let i = c.loop-index.index in
    let x = at_place k.starts k.contents k.depth k.len hs i (omega (arith, h.count, c.loop-index-test.true)) h.heads h.open_heads in
    let said : content_in (slice_index_or k.contents i 0) ≡ Some x.head.content = ap content_in (ap (λ n. slice_index_or k.contents n 0) (sym x.count) ∙ x.kept.1) ∙ content_back x.head.content in
    let both : Some c.in-Some.content ≡ Some x.head.content = sym c.in-Some.is ∙ c.content_by_number.ensures ∙ said in
    let content : c.in-Some.content ≡ x.head.content = cc in
    let start : slice_index_or k.starts i 0 ≡ x.head.start = ap (λ n. slice_index_or k.starts n 0) (sym x.count) ∙ x.kept.0 in
    let same : levels_in c.in-Some.content ≡ levels_in x.head.content = ap levels_in content in
    elim c.then-kept-lt4.branch [
      | then-kept-lt4-via-then-kept-lt4 w ↦ omega (arith, w.if-kept-lt4.true, x.open_heads.0)
      | then-kept-lt4-via-else-kept-lt4+then-start-kept w ↦ omega (arith, w.if-kept-lt4.false, w.if-start-kept.true, start, x.open_heads.0)
      | then-kept-lt4-via-else-kept-lt4+else-start-kept+then-index-levels_inside w ↦ omega (arith, w.if-index-levels_inside.true, w.levels_inside.ensures, same, x.count, x.open_heads.1)
    ]

pub loop-index-preserved : goal.loop-index-preserved
loop-index-preserved c =
    let k = c.args.kept.now in
    let i = c.loop-index.index in
    let v = c.loop-index.invariant in (
      omega (arith, c.loop-index-test.true),
      v.1,
      one_more k.starts k.contents k.depth k.len i (slice_index_or k.starts i 0) c.in-Some.content c.loop-index.head v.2 refl
          (content_said (slice_index_or k.contents i 0) c.in-Some.content (sym c.content_by_number.ensures ∙ c.in-Some.is))
          (omega (arith, c.if-kept-lt4.false, c.if-start-kept.false)) (omega (arith, c.if-index-levels_inside.false, c.levels_inside.ensures)),
    )
