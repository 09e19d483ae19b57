-- `verifying::comparing::right_in_row` meets its contract: the row as it is judged, beside what stands from its place on.
use mathlib.Core.Path.{◌≡◌, refl, ◌∙◌}
use Prim.Native.Nat.{◌+◌, ◌-◌, ◌*◌}
use native.Mathlib.Omega.{arith}
use Rattle.columns.proofs.TextLaws.{from_on}
use Rattle.forms.specs.OwnForm.{row_width}
use Rattle.sheet.specs.Entered.{everybody}
use borrow.Author.Rules.{rules}
use Rattle.verifying.proofs.comparing.right_in_row.Goals as goal

pub station_row-row-requires : goal.station_row-row-requires
station_row-row-requires c =
    let d : c.args.i + 1 - 1 ≡ c.args.i = omega arith in
    record {
      has_record = search rules;
      le_k = search rules;
      some_entered = rw d (record { parts = everybody; entered = c.requires.entered });
    }

pub returns : goal.returns
returns c =
    let d : c.args.i + 1 - 1 ≡ c.args.i = omega arith in
    let row = c.station_row-row.ensures everybody refl (rw d c.requires.entered) in
    record {
      value = c.alike_in_front.ensures ∙ rw (row.0, from_on c.args.sheet.now (row_width * c.args.i));
      entered_2 = row.1;
    }
