-- `decimals::magnitude_of` meets its contract.
use Prim.Native.Nat.{ℕ, ◌+◌, ◌-◌, ◌<◌}
use mathlib.Core.Path.{◌≡◌, sym, ap, ◌∙◌}
use native.Mathlib.Nat.{one-le-pow}
use lib.ListN.{length, get_or, drop}
use borrow.Author.Tests.{eq-eqb, ne_eqb}
use Rattle.columns.specs.Texts.{head}
use Rattle.numerals.specs.Numbers.{leading}
use Rattle.decimals.specs.Decimals.{fraction_of, magnitude_of}
use Rattle.columns.proofs.TextLaws.{head_at, tail_at, byte_below, from_on}
use Rattle.numerals.proofs.NumberLaws.{front_below}
use Rattle.decimals.proofs.DecimalLaws.{leaves_room}
use native.Mathlib.Omega.{arith}
use borrow.Author.Rules.{rules}
use Rattle.decimals.proofs.magnitude_of.Goals as goal
use Rattle.decimals.proofs.magnitude_of.Goals.{After-byte, Else-byte-ne46}

pub digits-w-requires : goal.digits-w-requires
digits-w-requires c = (omega (arith, c.requires), one-le-pow (18 - c.args.a) 10 (omega arith))

-- the byte after the digits
point : (c : After-byte) → c.byte.result ≡ head (drop (length (leading c.args.a c.args.t.now)) c.args.t.now)
point c =
    let t = c.args.t.now in
    c.byte.ensures ∙ ap (λ (n : ℕ). get_or t n 0) c.digits-w.ensures.0 ∙ sym (head_at t _)

-- where it is a point, it is there
there : (c : Else-byte-ne46) → c.digits-w.result.count < length c.args.t.now
there c = byte_below c.args.t.now _ 46 (sym c.byte.ensures ∙ c.if-byte-ne46.false) (omega arith)

pub returns-then-byte-ne46 : goal.returns-then-byte-ne46
unfolding magnitude_of
returns-then-byte-ne46 c = rw (← (point (goal.at.returns-then-byte-ne46 c).After-byte), ne_eqb c.byte.result 46 c.if-byte-ne46.true)

pub overflow_add-q : goal.overflow_add-q
overflow_add-q c = omega (arith, (there c))

pub slice_bounds-fraction_of-count : goal.slice_bounds-fraction_of-count
slice_bounds-fraction_of-count c = omega (arith, (there c))

pub slice_bounds-fraction_of-start : goal.slice_bounds-fraction_of-start
slice_bounds-fraction_of-start c = let h = (there c) in search rules

pub fraction_of-requires : goal.fraction_of-requires
fraction_of-requires c =
    (omega (arith, c.requires), rw c.digits-w.ensures.1 (leaves_room c.args.a c.args.b _ c.requires (front_below c.args.a c.args.t.now)))

pub returns : goal.returns
unfolding magnitude_of
returns c =
    let t = c.args.t.now in
    rw (← (point (goal.at.returns c).After-byte), eq-eqb c.byte.result 46 c.if-byte-ne46.false, tail_at, ← c.digits-w.ensures.0, ← c.digits-w.ensures.1)
    (c.fraction_of.ensures ∙ ap (fraction_of c.args.b c.digits-w.result.value) (from_on t (c.digits-w.result.count + 1)))
