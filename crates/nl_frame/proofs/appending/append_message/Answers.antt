use Rattle.nl_frame.proofs.Common.{◌≡◌, ◌+◌, ◌-◌, [], ◌∷◌, ◌++◌, List, ℕ, ap, sym, ◌∙◌, arith, append_assoc, vec_len, number, body_view, body_len, body_written, num, with_padding, item_closed, length-num}
use Rattle.nl_route.specs.Fields as fields
use Rattle.nl_frame.proofs.appending.append_message.Goals as goal

pub returns-clause-items : goal.returns-clause-items
returns-clause-items c =
    let o = c.args.order in
    let m = c.args.message.now in
    let old = c.args.out.now.items in
    let tail = fields.written o (number 2 m.kind ∷ number 2 m.flags ∷ number 4 m.seq ∷ number 4 m.port ∷ []) in
    let body = body_written o (body_view m.body) in
    let all = c.append_body.ensures.items ∙ ap (λ (ys : List ℕ). ys ++ body) c.put.ensures.items in
    let n : vec_len c.append_body.new.out - c.len-start.result ≡ 16 + body_len (body_view m.body) = omega (arith, c.append_body.ensures.len, c.put.ensures.len, c.len-start.ensures) in
    c.close_message.ensures.items ∙ item_closed o 4 old (num 0 4 o) tail body _ c.len-start.result _ _ (length-num o 0 4) all (c.len-start.ensures ∙ c.args.out.now.ok.0) n
    ∙ ap (λ (ys : List ℕ). old ++ with_padding ys) (sym (append_assoc (num (16 + body_len (body_view m.body)) 4 o) tail body))
