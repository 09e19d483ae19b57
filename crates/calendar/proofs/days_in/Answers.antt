-- `calendar::days_in` meets its contract, month by month.
use mathlib.Core.Path.{◌≡◌, sym, ap, ◌∙◌}
use mathlib.Core.Bool.{Bool, cond}
use Prim.Native.Nat.{ℕ}
use Rattle.calendar.specs.Calendar.{is_leap, days_in}
use Rattle.calendar.proofs.CalendarLaws.{days_february, days_short, days_long}
use Rattle.calendar.proofs.days_in.Goals as goal

-- the days of February, as the year's test answers
february : (m y : ℕ) {leap b : Bool} → leap ≡ is_leap y → leap ≡ b → m ≡ 2 → cond b 29 28 ≡ days_in m y
february m y e f k = ap (λ (x : Bool). cond x 29 28) (sym f ∙ e) ∙ days_february m y k

pub returns-then-is_leap : goal.returns-then-is_leap
returns-then-is_leap c = february c.args.month c.args.year c.is_leap.ensures c.if-is_leap.true c.in-2.is

pub returns-else-is_leap : goal.returns-else-is_leap
returns-else-is_leap c = february c.args.month c.args.year c.is_leap.ensures c.if-is_leap.false c.in-2.is

pub returns-in-4 : goal.returns-in-4
returns-in-4 c = days_short c.args.month c.args.year c.in-4.is

pub returns-in_default : goal.returns-in_default
returns-in_default c = days_long c.args.month c.args.year c.in_default.in_default-own.rest.0.1 c.in_default.in_default-own.rest.1
