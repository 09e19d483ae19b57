-- `files::lengths::record_in` meets its contract.
use Rattle.files.proofs.FileLaws.{record_past, record_last, record_whole}
use Rattle.files.proofs.PieceLaws.{offset_there, offset_past}
use Rattle.basics.proofs.StandLaws.{cut_at}
use native.Mathlib.Nat.{sub_self}
use native.Mathlib.Omega.{arith}
use Rattle.files.proofs.lengths.record_in.Goals as goal

pub returns-then-k-records : goal.returns-then-k-records
returns-then-k-records c =
    let past = c.if-k-records.true in
    (rw sub_self (record_past c.args.file.now c.args.k past), cut_at _ _ _ _ (offset_past c.args.file.now c.args.k past))

pub returns-then-k-records-2 : goal.returns-then-k-records-2
returns-then-k-records-2 c =
    let last = c.if-k-records-2.true in
    (record_last c.args.file.now c.args.k last, cut_at _ _ _ _ (offset_there c.args.file.now c.args.k (omega arith)))

pub returns : goal.returns
returns c =
    (record_whole c.args.file.now c.args.k, cut_at _ _ _ _ (offset_there c.args.file.now c.args.k (omega arith)))
