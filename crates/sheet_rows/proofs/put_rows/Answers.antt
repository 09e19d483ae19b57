-- `sheet_rows::put_rows` meets its contract: so many rows are as they should be, and so many were written.
use mathlib.Core.Path.{◌≡◌, sym, ap, ◌∙◌}
use mathlib.Core.Bool.{Bool}
use mathlib.Core.List.{List}
use Prim.Native.Nat.{ℕ, ◌+◌, ◌-◌}
use native.Mathlib.Omega.{arith}
use Rattle.words.specs.Words.{word_of}
use Rattle.stations.specs.Stations.{site_at}
use Rattle.forms.proofs.CountLaws.{count_hit, count_miss}
use Rattle.chains.specs.declared.keys.Scope.{Scope}
use Rattle.chains.specs.Scopes.{in_scope}
use Rattle.sheet.specs.Entered.{scoped, written}
use Rattle.sheet.proofs.EnteredLaws.{entered_out, scope_closed}
use Rattle.sheet.proofs.WrittenLaws.{is_written, too_early, out_of_scope, written_hit, written_miss}
use borrow.Author.Rules.{rules}
use Rattle.sheet_rows.proofs.put_rows.Goals as goal
use Rattle.sheet_rows.proofs.put_rows.Goals.{then-in_scope+then-k-from, then-in_scope+else-k-from, else-in_scope}

pub loop-i-init : goal.loop-i-init
loop-i-init c = (search rules, search rules, search rules, search rules, c.new-entered.ensures c.args.file.now (scoped c.args.scope c.args.file.now) (scope_closed c.args.scope c.args.file.now))

-- what is found of the scope is so
in_scope_so : (scope : Scope) (file : List ℕ) (k : ℕ) {site : ℕ} {found told : Bool} → site ≡ word_of (site_at file k) → found ≡ in_scope scope site → found ≡ told → scoped scope file k ≡ told
in_scope_so scope file k es ef et = sym (ap (λ (x : ℕ). in_scope scope x) es) ∙ sym ef ∙ et

pub enter_station-requires : goal.enter_station-requires
enter_station-requires c =
    let d : c.loop-i.i + 1 - 1 ≡ c.loop-i.i = omega arith in
    record {
      has_record = search rules;
      le_k = search rules;
      some_entered = rw d (record { parts = scoped c.args.scope c.args.file.now; entered = c.loop-i.invariant.4 });
    }

pub station_row-row-requires : goal.station_row-row-requires
station_row-row-requires c =
    let d : c.loop-i.i + 1 - 1 ≡ c.loop-i.i = omega arith in
    record {
      has_record = search rules;
      le_k = search rules;
      some_entered = rw d (record { parts = scoped c.args.scope c.args.file.now; entered = c.loop-i.invariant.4 });
    }

pub loop-i-preserved : goal.loop-i-preserved
loop-i-preserved c =
    let file = c.args.file.now in
    let i = c.loop-i.i in
    let d : i + 1 - 1 ≡ i = omega arith in
    elim c.if-in_scope.branch [
      | then-in_scope+then-k-from w ↦
          let here = in_scope_so c.args.scope file (i + 1) c.site_number.ensures c.in_scope.ensures w.if-in_scope.true in
          let miss = too_early c.args.scope c.args.from file (i + 1) w.if-k-from.true in
          rw (w.sheet-is, w.entered-is, w.wrote-is) (
            c.loop-i.invariant.0,
            c.loop-i.invariant.1 ∙ written_miss c.args.scope c.args.from file c.args.sheet.now i (search rules) miss,
            search rules,
            count_miss (written c.args.scope c.args.from file) i c.loop-i.wrote c.loop-i.invariant.3 miss,
            w.enter_station.ensures (scoped c.args.scope file) here (rw d c.loop-i.invariant.4),
          )
      | then-in_scope+else-k-from w ↦
          let here = in_scope_so c.args.scope file (i + 1) c.site_number.ensures c.in_scope.ensures w.if-in_scope.true in
          let row = w.station_row-row.ensures (scoped c.args.scope file) here (rw d c.loop-i.invariant.4) in
          let hit = is_written c.args.scope c.args.from file (i + 1) w.if-k-from.false here in
          rw (w.sheet-is, w.entered-is, w.wrote-is) (
            w.put_row.auto.sheet ∙ c.loop-i.invariant.0,
            w.put_row.ensures ∙ written_hit c.args.scope c.args.from file c.args.sheet.now i (search rules) _ _ row.0 hit c.loop-i.invariant.1,
            search rules,
            count_hit (written c.args.scope c.args.from file) i c.loop-i.wrote c.loop-i.invariant.3 hit,
            row.1,
          )
      | else-in_scope w ↦
          let out = in_scope_so c.args.scope file (i + 1) c.site_number.ensures c.in_scope.ensures w.if-in_scope.false in
          let miss = out_of_scope c.args.scope c.args.from file (i + 1) out in
          rw (w.sheet-is, w.entered-is, w.wrote-is) (
            c.loop-i.invariant.0,
            c.loop-i.invariant.1 ∙ written_miss c.args.scope c.args.from file c.args.sheet.now i (search rules) miss,
            search rules,
            count_miss (written c.args.scope c.args.from file) i c.loop-i.wrote c.loop-i.invariant.3 miss,
            entered_out file (scoped c.args.scope file) _ _ i out c.loop-i.invariant.4,
          )
    ]

pub returns : goal.returns
returns c =
    let e : c.loop-i.i ≡ c.args.n = omega arith in
    record {
      value = rw e at c.loop-i.invariant.3;
      sheet_after = rw e at c.loop-i.invariant.1;
    }
