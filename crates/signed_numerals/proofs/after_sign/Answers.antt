-- `signed_numerals::after_sign` meets its contract.
use Prim.Native.Nat.{◌≤◌}
use mathlib.Core.Path.{sym, ◌∙◌}
use mathlib.Core.Logic.{inl, inr}
use mathlib.Core.Bool.{true}
use mathlib.Core.List.{[], ◌∷◌}
use native.Mathlib.Omega.{arith}
use lib.ListN.{length}
use borrow.Author.Tests.{ne_eqb}
use Rattle.columns.proofs.SetLaws.{keyed}
use Rattle.columns.proofs.TextLaws.{byte_below, from_on}
use Rattle.columns.specs.Sets.{among}
use Rattle.numerals.specs.Numbers.{unsigned}
use borrow.Author.Rules.{rules}
use Rattle.signed_numerals.proofs.after_sign.Goals as goal
use Rattle.signed_numerals.proofs.after_sign.Goals.{In-43}

-- a sign is a byte that is there
there : (c : In-43) → 1 ≤ length c.args.t.now
there c =
    let t = c.args.t.now in
    elim c.in-43.is [ inl e ↦ byte_below t 0 43 (sym c.byte.ensures ∙ e) (omega arith) | inr e ↦ byte_below t 0 45 (sym c.byte.ensures ∙ e) (omega arith) ]

pub slice_bounds-result-count : goal.slice_bounds-result-count
slice_bounds-result-count c = (there c)

pub slice_bounds-result-start : goal.slice_bounds-result-start
slice_bounds-result-start c = let h = (there c) in search rules

pub returns-in-43 : goal.returns-in-43
unfolding unsigned among
returns-in-43 c =
    let signs = keyed (among "+-") true (43 ∷ 45 ∷ []) tt c.byte.result c.in-43.is in
    rw (c.if-sign.true, ← c.byte.ensures, ← signs) (from_on c.args.t.now 1)

pub returns-in_default : goal.returns-in_default
unfolding unsigned among
returns-in_default c =
    let b = c.byte.result in
    let no = c.in_default.in_default-own.rest.1 in
    rw (c.if-sign.true, ← c.byte.ensures, ne_eqb b 43 (λ e. no (inl e)), ne_eqb b 45 (λ e. no (inr e)))

pub returns-else-sign : goal.returns-else-sign
unfolding unsigned
returns-else-sign c = rw c.if-sign.false
