use Rattle.std.specs.Option.{option_copied}
use Rattle.nl_table.specs.Keys.{byte, number, bytes}
use Rattle.nl_table.proofs.Appending.{none, kept, more}
use Rattle.nl_table.proofs.families.route.RouteEntry.append_key.Goals as goal

pub returns-clause-key : goal.returns-clause-key
returns-clause-key g c =
    let h = c.args.self.now.head in
    let p = c.parts_of-parts.result in
    let k0 = kept (none c.requires.empty) c.in_ok-make_room.ensures.held in
    let k1 = more k0 (byte h.family) c.byte.ensures.bytes in
    let k2 = more k1 (byte h.dst_len) c.byte-2.ensures.bytes in
    let k3 = more k2 (bytes (option_copied p.dst)) c.in_ok-append_bytes.ensures.bytes in
    let r3 = kept k3 c.in_ok-make_room-2.ensures.held in
    let k4 = more r3 (byte h.src_len) c.byte-3.ensures.bytes in
    let k5 = more k4 (bytes (option_copied p.src)) c.in_ok-append_bytes-2.ensures.bytes in
    let r5 = kept k5 c.in_ok-make_room-3.ensures.held in
    let k6 = more r5 (byte h.tos) c.byte-4.ensures.bytes in
    let k7 = more k6 (number 4 p.table) c.four.ensures.bytes in
    let k8 = more k7 (number 4 p.priority) c.four-2.ensures.bytes in
    let k9 = more k8 (byte h.sort) c.byte-5.ensures.bytes in
    let k10 = more k9 (number 4 p.interface) c.four-3.ensures.bytes in
    let k11 = more k10 (bytes (option_copied p.gateway)) c.in_ok-append_bytes-3.ensures.bytes in
    let of = c.parts_of-parts.ensures in
    rw (of.dst, of.src, of.table, of.priority, of.interface, of.gateway) at k11.is
