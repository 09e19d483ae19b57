-- `splitting::marks::count` meets its contract: what was counted, and what is still to come, are all.
use Rattle.std.proofs.Common.{arith, ℕ, ◌≡◌, List, [], ◌∷◌, length, refl, ap, ◌∙◌, length-append}
use lib.Dec.{eqb}
use Rattle.columns.specs.Texts.{how_many}
use Rattle.semicolons.proofs.CountLaws.{how_many_append}
use Rattle.splitting.proofs.marks.count.Goals as goal

-- where nothing is left
none : (test : ℕ → _) (rest : List ℕ) → length rest ≡ 0 → how_many test rest ≡ 0
unfolding how_many
none test [] e = refl
none test (x ∷ rest) e = absurd (omega (arith, e))

pub loop-part-preserved : goal.loop-part-preserved
loop-part-preserved c =
    let s = c.in-Some.ensures.steps in
    let all = ap length s.1.0 ∙ length-append c.in-Some.part.now c.next.new.self.rest.now in
    let sums = ap (how_many (λ x. eqb x c.args.mark)) s.1.0 ∙ how_many_append (λ x. eqb x c.args.mark) c.in-Some.part.now c.next.new.self.rest.now in (
      s.0 ∙ c.loop-part.invariant.0,
      omega (arith, all, c.loop-part.invariant.1, c.count_few.ensures.0, c.from-n.ensures),
      omega (arith, sums, c.loop-part.invariant.2, c.count_few.ensures.1, c.from-n.ensures),
    )

pub returns : goal.returns
returns c =
    let left = none (λ x. eqb x c.args.mark) c.loop-part.part-iterator.rest.now c.in-None.ensures.steps.1.0 in
    omega (arith, c.loop-part.invariant.2, left)
