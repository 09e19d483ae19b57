-- `header_writing::put_header` meets its contract: each group is written after the one before it.
use mathlib.Core.Path.{◌≡◌}
use lib.ListN.{length, take, drop}
use Rattle.header.proofs.RoundTrip.{date_fits_lem}
use Rattle.header.specs.Spelling.{header_pieces, spell_header}
use Rattle.basics.proofs.WriteLaws.{nothing_yet, then_some, all_written}
use native.Mathlib.Omega.{arith}
use borrow.Author.Rules.{rules}
use Rattle.header_writing.proofs.put_header.Goals as goal

pub put_sending-requires : goal.put_sending-requires
put_sending-requires c = (search rules, date_fits_lem _ c.requires.1)

pub returns : goal.returns
unfolding spell_header header_pieces
returns c =
    let l : length c.args.s.now ≡ 219 = c.requires.0 in
    let w0 = nothing_yet c.args.s.now in
    let w1 = then_some w0 86 (omega arith) (take 4 (header_pieces c.args.h)) c.put_file.ensures c.put_file.auto.s in
    let w2 = then_some w1 100 (omega arith) (take 4 (drop 4 (header_pieces c.args.h))) c.put_sender.ensures c.put_sender.auto.s in
    let w3 = then_some w2 17 (omega arith) (take 3 (drop 8 (header_pieces c.args.h))) c.put_sending.ensures c.put_sending.auto.s in
    let w4 = then_some w3 16 (omega arith) (drop 11 (header_pieces c.args.h)) c.put_end.ensures c.put_end.auto.s in
    all_written w4 l
