use Rattle.nl_request.proofs.Common.{◌∷◌, [], refl, sym, ◌∙◌, over, bytes_part, number_part, first_parts}
use Rattle.nl_route.specs.Route.{RTA_DST, RTA_SRC, RTA_OIF, RTA_GATEWAY, RTA_PRIORITY, RTA_PREFSRC, RTA_TABLE}
use Rattle.nl_request.specs.Prefixes.{prefix_part}
use Rattle.nl_request.specs.Tables.{table_part}
use Rattle.nl_request.proofs.Runs.{parts_run, parts_stop}
use Rattle.nl_request.proofs.route.RouteRequest.put_first.Goals as goal

pub returns-in-Some-clause-built : goal.returns-in-Some-clause-built
returns-in-Some-clause-built c =
    let b = over c.args.builder.now c.args.out.now in
    parts_stop b b [] (first_parts c.args.self.now c.args.order) c.in-Some.refusal refl (sym c.refusal.ensures ∙ c.in-Some.is)

pub returns-in_err-put_prefix-clause-built : goal.returns-in_err-put_prefix-clause-built
returns-in_err-put_prefix-clause-built c =
    let b = over c.args.builder.now c.args.out.now in
    let r = c.args.self.now in
    let o = c.args.order in
    let d = over c.put_prefix.new.builder c.put_prefix.new.out in
    let ps = prefix_part RTA_DST r.destination ∷ [] in
    parts_stop b d ps (prefix_part RTA_SRC r.source ∷ bytes_part RTA_GATEWAY r.gateway ∷ bytes_part RTA_PREFSRC r.preferred_source ∷ number_part RTA_PRIORITY 4 o r.priority ∷ table_part RTA_TABLE o r.table ∷ number_part RTA_OIF 4 o r.oif ∷ []) _ (parts_run b ps d (over c.put_prefix.new.builder c.put_prefix.new.out, c.put_prefix.ensures.built, refl)) c.in_err-put_prefix.ensures.refused

pub returns-in_err-put_prefix-2-clause-built : goal.returns-in_err-put_prefix-2-clause-built
returns-in_err-put_prefix-2-clause-built c =
    let b = over c.args.builder.now c.args.out.now in
    let r = c.args.self.now in
    let o = c.args.order in
    let d = over c.put_prefix-2.new.builder c.put_prefix-2.new.out in
    let ps = prefix_part RTA_DST r.destination ∷ prefix_part RTA_SRC r.source ∷ [] in
    parts_stop b d ps (bytes_part RTA_GATEWAY r.gateway ∷ bytes_part RTA_PREFSRC r.preferred_source ∷ number_part RTA_PRIORITY 4 o r.priority ∷ table_part RTA_TABLE o r.table ∷ number_part RTA_OIF 4 o r.oif ∷ []) _ (parts_run b ps d (over c.put_prefix.new.builder c.put_prefix.new.out, c.put_prefix.ensures.built, (over c.put_prefix-2.new.builder c.put_prefix-2.new.out, c.put_prefix-2.ensures.built, refl))) c.in_err-put_prefix-2.ensures.refused

pub returns-in_err-put_bytes-clause-built : goal.returns-in_err-put_bytes-clause-built
returns-in_err-put_bytes-clause-built c =
    let b = over c.args.builder.now c.args.out.now in
    let r = c.args.self.now in
    let o = c.args.order in
    let d = over c.put_bytes.new.builder c.put_bytes.new.out in
    let ps = prefix_part RTA_DST r.destination ∷ prefix_part RTA_SRC r.source ∷ bytes_part RTA_GATEWAY r.gateway ∷ [] in
    parts_stop b d ps (bytes_part RTA_PREFSRC r.preferred_source ∷ number_part RTA_PRIORITY 4 o r.priority ∷ table_part RTA_TABLE o r.table ∷ number_part RTA_OIF 4 o r.oif ∷ []) _ (parts_run b ps d (over c.put_prefix.new.builder c.put_prefix.new.out, c.put_prefix.ensures.built, (over c.put_prefix-2.new.builder c.put_prefix-2.new.out, c.put_prefix-2.ensures.built, (over c.put_bytes.new.builder c.put_bytes.new.out, c.put_bytes.ensures.built, refl)))) c.in_err-put_bytes.ensures.refused

pub returns-in_err-put_bytes-2-clause-built : goal.returns-in_err-put_bytes-2-clause-built
returns-in_err-put_bytes-2-clause-built c =
    let b = over c.args.builder.now c.args.out.now in
    let r = c.args.self.now in
    let o = c.args.order in
    let d = over c.put_bytes-2.new.builder c.put_bytes-2.new.out in
    let ps = prefix_part RTA_DST r.destination ∷ prefix_part RTA_SRC r.source ∷ bytes_part RTA_GATEWAY r.gateway ∷ bytes_part RTA_PREFSRC r.preferred_source ∷ [] in
    parts_stop b d ps (number_part RTA_PRIORITY 4 o r.priority ∷ table_part RTA_TABLE o r.table ∷ number_part RTA_OIF 4 o r.oif ∷ []) _ (parts_run b ps d (over c.put_prefix.new.builder c.put_prefix.new.out, c.put_prefix.ensures.built, (over c.put_prefix-2.new.builder c.put_prefix-2.new.out, c.put_prefix-2.ensures.built, (over c.put_bytes.new.builder c.put_bytes.new.out, c.put_bytes.ensures.built, (over c.put_bytes-2.new.builder c.put_bytes-2.new.out, c.put_bytes-2.ensures.built, refl))))) c.in_err-put_bytes-2.ensures.refused

pub returns-in_err-put_u32-clause-built : goal.returns-in_err-put_u32-clause-built
returns-in_err-put_u32-clause-built c =
    let b = over c.args.builder.now c.args.out.now in
    let r = c.args.self.now in
    let o = c.args.order in
    let d = over c.put_u32.new.builder c.put_u32.new.out in
    let ps = prefix_part RTA_DST r.destination ∷ prefix_part RTA_SRC r.source ∷ bytes_part RTA_GATEWAY r.gateway ∷ bytes_part RTA_PREFSRC r.preferred_source ∷ number_part RTA_PRIORITY 4 o r.priority ∷ [] in
    parts_stop b d ps (table_part RTA_TABLE o r.table ∷ number_part RTA_OIF 4 o r.oif ∷ []) _ (parts_run b ps d (over c.put_prefix.new.builder c.put_prefix.new.out, c.put_prefix.ensures.built, (over c.put_prefix-2.new.builder c.put_prefix-2.new.out, c.put_prefix-2.ensures.built, (over c.put_bytes.new.builder c.put_bytes.new.out, c.put_bytes.ensures.built, (over c.put_bytes-2.new.builder c.put_bytes-2.new.out, c.put_bytes-2.ensures.built, (over c.put_u32.new.builder c.put_u32.new.out, c.put_u32.ensures.built, refl)))))) c.in_err-put_u32.ensures.refused

pub returns-in_err-put_table-clause-built : goal.returns-in_err-put_table-clause-built
returns-in_err-put_table-clause-built c =
    let b = over c.args.builder.now c.args.out.now in
    let r = c.args.self.now in
    let o = c.args.order in
    let d = over c.put_table.new.builder c.put_table.new.out in
    let ps = prefix_part RTA_DST r.destination ∷ prefix_part RTA_SRC r.source ∷ bytes_part RTA_GATEWAY r.gateway ∷ bytes_part RTA_PREFSRC r.preferred_source ∷ number_part RTA_PRIORITY 4 o r.priority ∷ table_part RTA_TABLE o r.table ∷ [] in
    parts_stop b d ps (number_part RTA_OIF 4 o r.oif ∷ []) _ (parts_run b ps d (over c.put_prefix.new.builder c.put_prefix.new.out, c.put_prefix.ensures.built, (over c.put_prefix-2.new.builder c.put_prefix-2.new.out, c.put_prefix-2.ensures.built, (over c.put_bytes.new.builder c.put_bytes.new.out, c.put_bytes.ensures.built, (over c.put_bytes-2.new.builder c.put_bytes-2.new.out, c.put_bytes-2.ensures.built, (over c.put_u32.new.builder c.put_u32.new.out, c.put_u32.ensures.built, (over c.put_table.new.builder c.put_table.new.out, c.put_table.ensures.built, refl))))))) c.in_err-put_table.ensures.refused

pub returns-clause-built : goal.returns-clause-built
returns-clause-built c =
    let b = over c.args.builder.now c.args.out.now in
    parts_run b (first_parts c.args.self.now c.args.order) (over c.put_u32-2.new.builder c.put_u32-2.new.out) (over c.put_prefix.new.builder c.put_prefix.new.out, c.put_prefix.ensures.built, (over c.put_prefix-2.new.builder c.put_prefix-2.new.out, c.put_prefix-2.ensures.built, (over c.put_bytes.new.builder c.put_bytes.new.out, c.put_bytes.ensures.built, (over c.put_bytes-2.new.builder c.put_bytes-2.new.out, c.put_bytes-2.ensures.built, (over c.put_u32.new.builder c.put_u32.new.out, c.put_u32.ensures.built, (over c.put_table.new.builder c.put_table.new.out, c.put_table.ensures.built, (over c.put_u32-2.new.builder c.put_u32-2.new.out, c.put_u32-2.ensures.built, refl)))))))
