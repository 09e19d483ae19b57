-- `line_parts::last_after` meets its contract: the library takes the same byte.
use Rattle.std.proofs.Common.{arith, ℕ, ◌≡◌, ◌-◌, ◌<◌, List, [], ◌∷◌, length, refl, ap, ◌∙◌}
use Rattle.std.specs.Option.{unwrap_or}
use Rattle.std.specs.List.{slice_get}
use Rattle.std.proofs.lemmas.Option.{unwrap_or-slice_get}
use Rattle.std.proofs.lemmas.List.{get_or_default}
use borrow.Author.Tests.{ne_eqb}
use Rattle.gathering.specs.Gathering.{last_after}
use Rattle.line_parts.proofs.last_after.Goals as goal

taken : (last : ℕ) (part : List ℕ) → unwrap_or (slice_get part (length part - 1)) last ≡ last_after last part
unfolding last_after
taken last [] = refl
taken last (x ∷ part) =
    let some = ne_eqb (length (x ∷ part)) 0 (λ e. omega (arith, e)) in
    let inside : length (x ∷ part) - 1 < length (x ∷ part) = omega arith in
    rw some (unwrap_or-slice_get (x ∷ part) (length (x ∷ part) - 1) last ∙ get_or_default (x ∷ part) (length (x ∷ part) - 1) last 0 inside)

pub returns : goal.returns
returns c = cc (taken c.args.last c.args.part.now)
