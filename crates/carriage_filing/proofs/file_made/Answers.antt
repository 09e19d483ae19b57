-- `carriage_filing::file_made` meets its contract: the record is made and read, and its station written.
use mathlib.Core.Path.{refl, sym, ap, ◌∙◌}
use lib.ListN.{replicate}
use Rattle.basics.proofs.RefusalLaws.{passed_on, error_done, none_told}
use Rattle.carriage_lines.specs.Lines.{carriage_record}
use Rattle.carriage_lines.proofs.CallLaws.{copied, made_done, made_broken}
use Rattle.carriage_filing.proofs.file_made.Goals as goal

pub returns : goal.returns
returns c =
    let line = c.args.line.now in
    let d = c.args.defaults.now in
    let made = c.put_carriage.ensures ∙ ap (carriage_record line) (copied (replicate 219 32) d c.requires.1 refl _ c.write_text.ensures.s_after) in
    let size = c.put_carriage.auto.rec ∙ c.write_text.auto.s in
    made_done line d c.args.out.now _ made size _ _ (sym c.in_ok-read.was ∙ c.read_station-read.ensures.0) c.read_station-read.ensures.1 (none_told refl) _ c.put_station.ensures

pub returns-in_err-read : goal.returns-in_err-read
returns-in_err-read c =
    let line = c.args.line.now in
    let d = c.args.defaults.now in
    let made = c.put_carriage.ensures ∙ ap (carriage_record line) (copied (replicate 219 32) d c.requires.1 refl _ c.write_text.ensures.s_after) in
    let size = c.put_carriage.auto.rec ∙ c.write_text.auto.s in
    let e = sym c.in_err-read.was in
    made_broken line d c.args.out.now _ made size _ (passed_on c.from_residual.ensures.1 (e ∙ c.read_station-read.ensures.0)) (error_done c.from_residual.result c.from_residual.ensures.1 e)
