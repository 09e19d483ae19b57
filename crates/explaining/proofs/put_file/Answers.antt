-- `explaining::put_file` meets its contract: there is room for the sheet of so many stations.
use mathlib.Core.Path.{sym}
use lib.Seq.{length-take-le}
use Rattle.printing.proofs.WriteLaws.{few}
use Rattle.forms.specs.OwnForm.{sheet_length}
use native.Mathlib.Omega.{arith}
use borrow.Author.Rules.{rules}
use Rattle.explaining.proofs.put_file.Goals as goal

pub overflow_mul-end : goal.overflow_mul-end
overflow_mul-end c = omega (arith, few c.args.file.now c.requires.file_value c.stations_in-n.ensures)

pub overflow_add-end : goal.overflow_add-end
overflow_add-end c = omega (arith, few c.args.file.now c.requires.file_value c.stations_in-n.ensures)

pub slice_bounds-space-end : goal.slice_bounds-space-end
slice_bounds-space-end c = omega (arith, few c.args.file.now c.requires.file_value c.stations_in-n.ensures, c.sheet_space-space.ensures)

pub slice_bounds-put_judged-end : goal.slice_bounds-put_judged-end
slice_bounds-put_judged-end c =
    let most = few c.args.file.now c.requires.file_value c.stations_in-n.ensures in
    sym (length-take-le (sheet_length c.stations_in-n.result) c.sheet_space-space.result (omega (arith, most, c.sheet_space-space.ensures)))

pub put_judged-requires : goal.put_judged-requires
put_judged-requires c =
    let most = few c.args.file.now c.requires.file_value c.stations_in-n.ensures in
    let room = length-take-le (sheet_length c.stations_in-n.result) c.sheet_space-space.result (omega (arith, most, c.sheet_space-space.ensures)) in
    record {
      n_value = (c.stations_in-n.ensures, room, search rules);
      file_value = c.requires.file_value;
    }

pub returns : goal.returns
returns c = rw (← c.stations_in-n.ensures) c.put_judged.ensures
