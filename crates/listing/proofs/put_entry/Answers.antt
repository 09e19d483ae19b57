-- `listing::put_entry` meets its contract: the record is listed, or its number and code are put in.
use mathlib.Core.Path.{ap, ◌∙◌}
use Rattle.basics.specs.Outcomes.{code_with, Outcome}
use Prim.Native.Nat.{◌+◌}
use Rattle.listing.proofs.ListLaws.{broken-put, line-put}
use native.Mathlib.Omega.{arith}
use borrow.Author.Rules.{rules}
use Rattle.listing.proofs.put_entry.Goals as goal

pub returns-then-code-gt0 : goal.returns-then-code-gt0
returns-then-code-gt0 c = record {
  appended = broken-put c.args.file.now c.args.out.now c.args.start (c.args.i + 1) c.requires.i_bound.1 c.requires.start_in_bounds _ _ _ _ c.record_in.ensures.0 c.record_to_line-written.ensures (c.code_with-code.ensures ∙ ap (λ (o : Outcome). code_with o) c.ended.ensures) (λ z. omega (arith, z, c.if-code-gt0.true)) c.put_broken.ensures.appended;
  upper_bound = search rules;
}

pub overflow_add-result : goal.overflow_add-result
overflow_add-result c =
    let put = line-put c.args.file.now c.args.out.now c.args.start (c.args.i + 1) c.requires.i_bound.1 c.requires.start_in_bounds _ _ _ _ c.record_in.ensures.0 c.record_to_line-written.ensures (c.code_with-code.ensures ∙ ap (λ (o : Outcome). code_with o) c.ended.ensures) (omega (arith, c.if-code-gt0.false)) in
    omega (arith, put.1, c.unwrap_or.ensures)

pub returns : goal.returns
returns c =
    let put = line-put c.args.file.now c.args.out.now c.args.start (c.args.i + 1) c.requires.i_bound.1 c.requires.start_in_bounds _ _ _ _ c.record_in.ensures.0 c.record_to_line-written.ensures (c.code_with-code.ensures ∙ ap (λ (o : Outcome). code_with o) c.ended.ensures) (omega (arith, c.if-code-gt0.false)) in
    record {
      appended = rw c.unwrap_or.ensures put.0;
      upper_bound = omega (arith, put.1, c.unwrap_or.ensures);
    }
