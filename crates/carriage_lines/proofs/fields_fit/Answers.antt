-- `carriage_lines::fields_fit` meets its contract: field by field.
use mathlib.Core.Path.{◌≡◌, sym, ◌∙◌}
use mathlib.Core.Bool.{true, false}
use lib.Dec.{leb}
use lib.ListN.{length}
use Rattle.carriage_lines.specs.Lines.{field_behind}
use Rattle.carriage_lines.proofs.PutLaws.{first_long, second_long, third_long, fourth_long, none_long}
use Rattle.carriage_lines.proofs.fields_fit.Goals as goal

pub returns-then-not-fits : goal.returns-then-not-fits
returns-then-not-fits c =
    let t = c.args.line.now in
    let first : leb (length (field_behind 1 t)) 11 ≡ false = sym c.fits.ensures ∙ c.if-not-fits.true in
    sym (first_long t first)

pub returns-then-not-fits-2 : goal.returns-then-not-fits-2
returns-then-not-fits-2 c =
    let t = c.args.line.now in
    let first : leb (length (field_behind 1 t)) 11 ≡ true = sym c.fits.ensures ∙ c.if-not-fits.false in
    let second : leb (length (field_behind 2 t)) 1 ≡ false = sym c.fits-2.ensures ∙ c.if-not-fits-2.true in
    sym (second_long t first second)

pub returns-then-not-fits-3 : goal.returns-then-not-fits-3
returns-then-not-fits-3 c =
    let t = c.args.line.now in
    let first : leb (length (field_behind 1 t)) 11 ≡ true = sym c.fits.ensures ∙ c.if-not-fits.false in
    let second : leb (length (field_behind 2 t)) 1 ≡ true = sym c.fits-2.ensures ∙ c.if-not-fits-2.false in
    let third : leb (length (field_behind 3 t)) 6 ≡ false = sym c.fits-3.ensures ∙ c.if-not-fits-3.true in
    sym (third_long t first second third)

pub returns-then-not-fits-4 : goal.returns-then-not-fits-4
returns-then-not-fits-4 c =
    let t = c.args.line.now in
    let first : leb (length (field_behind 1 t)) 11 ≡ true = sym c.fits.ensures ∙ c.if-not-fits.false in
    let second : leb (length (field_behind 2 t)) 1 ≡ true = sym c.fits-2.ensures ∙ c.if-not-fits-2.false in
    let third : leb (length (field_behind 3 t)) 6 ≡ true = sym c.fits-3.ensures ∙ c.if-not-fits-3.false in
    let fourth : leb (length (field_behind 4 t)) 15 ≡ false = sym c.fits-4.ensures ∙ c.if-not-fits-4.true in
    sym (fourth_long t first second third fourth)

pub returns : goal.returns
returns c =
    let t = c.args.line.now in
    let first : leb (length (field_behind 1 t)) 11 ≡ true = sym c.fits.ensures ∙ c.if-not-fits.false in
    let second : leb (length (field_behind 2 t)) 1 ≡ true = sym c.fits-2.ensures ∙ c.if-not-fits-2.false in
    let third : leb (length (field_behind 3 t)) 6 ≡ true = sym c.fits-3.ensures ∙ c.if-not-fits-3.false in
    let fourth : leb (length (field_behind 4 t)) 15 ≡ true = sym c.fits-4.ensures ∙ c.if-not-fits-4.false in
    sym (none_long t first second third fourth)
