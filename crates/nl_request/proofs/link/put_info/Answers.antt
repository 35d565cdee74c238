use Rattle.nl_request.proofs.Common.{◌≡◌, [], ◌∷◌, Option, Some, refl, sym, subst, IFLA_LINKINFO, bytes, run, calls_of_items, IFLA_INFO_DATA, info_part, bytes_part, items_of, calls_of_part, over}
use Rattle.nl_route.specs.Link.{IFLA_INFO_KIND}
use Rattle.nl_request.specs.declared.link.LinkInfo.{LinkInfo}
use Rattle.nl_request.proofs.Runs.{parts_run, inside_run}
use Rattle.nl_request.proofs.link.put_info.Goals as goal

pub returns-in-Some-clause-built : goal.returns-in-Some-clause-built
returns-in-Some-clause-built c =
    let b = over c.args.builder.now c.args.out.now in
    let filled = over c.put_bytes-in-Some.new.builder c.put_bytes-in-Some.new.out in
    let ps = Some (IFLA_INFO_KIND, bytes c.in-Some.info.kind.now) ∷ bytes_part IFLA_INFO_DATA c.in-Some.info.«data» ∷ [] in
    let put = parts_run (over c.open_attr.new.self c.open_attr.new.out) ps filled (over c.put_bytes.new.self c.put_bytes.new.out, c.put_bytes.ensures.built, (filled, c.put_bytes-in-Some.ensures.built, refl)) in
    let e = inside_run b (over c.open_attr.new.self c.open_attr.new.out) filled (over c.close.new.self c.close.new.out) IFLA_LINKINFO (calls_of_items (items_of ps)) c.open_attr.ensures.built put c.close.ensures.built in
    subst (λ (i : Option LinkInfo). over c.close.new.self c.close.new.out ≡ run b (calls_of_part (info_part i))) (sym c.in-Some.is) e
