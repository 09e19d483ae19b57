-- What a list has for a station, from how listing its record ended.
use Rattle.std.specs.Prelude.{Ok, Err, Result}
use mathlib.Core.Path.{◌≡◌, refl, sym, ap, subst, ◌∙◌}
use mathlib.Core.Bool.{Bool, true, false}
use mathlib.Core.List.{List, ◌++◌}
use Prim.Native.Nat.{ℕ, ◌+◌, ◌*◌, ◌≤◌}
use native.Mathlib.Omega.{arith}
use lib.Dec.{eqb}
use lib.ListN.{length, drop}
use borrow.Author.Tests.{eq-eqb, ne_eqb, eqb-true, le-leb}
use Rattle.basics.specs.Fields.{record_length}
use Rattle.station.specs.Codes.{value_of, station_code}
use Rattle.station.proofs.RoundTrip.{read_fits}
use Rattle.files.specs.Files.{record_at}
use Rattle.files.proofs.FileLaws.{record_wide}
use Rattle.semicolons.specs.Lines.{line_of}
use Rattle.basics.specs.Outcomes.{refusal, code_with, if_done, first_refusal, ends}
use Rattle.lists.specs.Calls.{record_listing, listed_length, listed_record}
use Rattle.lists.specs.Promises.{RecordListed}
use Rattle.basics.specs.declared.Refusal.TheVariants as why
use Rattle.std.specs.Result.{result_unwrap_or}
use Rattle.basics.specs.declared.Refusal.{Refusal}
use Rattle.lists.proofs.RoundTrip.{line_size}
use Rattle.printing.specs.Lines.{broken_line}
use Rattle.listing.specs.Lists.{entry, entry_of}
use Rattle.printing.specs.Promises.{Appended}
use Rattle.printing.proofs.AppendLaws.{rest_of, with_rest, rest_length, rest_kept, rest_written}

-- A record of 219 bytes, listed into a buffer that has room for any line.
module _ (r buffer : List ℕ) (wide : length r ≡ record_length) (room : 249 ≤ length buffer) where
  -- The line of one that breaks no rule fits,
  line-room : station_code r ≡ 0 → length (line_of (value_of r)) ≤ 249
  line-room z = line_size (value_of r) (read_fits r wide z)

  -- so that it is listed,
  listed-whole : station_code r ≡ 0 → record_listing r buffer ≡ Ok tt
  unfolding record_listing first_refusal
  listed-whole z =
      let fits : length (line_of (value_of r)) ≤ length buffer = omega (arith, line-room z) in
      rw (eq-eqb (length r) record_length wide, z, le-leb (length (line_of (value_of r))) (length buffer) fits)

  -- and any other is refused with its code.
  listed-broken : eqb (station_code r) 0 ≡ false → record_listing r buffer ≡ Err (why.RuleBroken (station_code r))
  unfolding record_listing first_refusal
  listed-broken z = rw (eq-eqb (length r) record_length wide, z)

  -- So the code that is answered is the record's.
  code_told : code_with (record_listing r buffer) ≡ station_code r
  unfolding code_with
  code_told = by (eqb (station_code r) 0) refl where
    by : (b : Bool) → eqb (station_code r) 0 ≡ b → code_with (record_listing r buffer) ≡ station_code r
    by true z =
        let e : station_code r ≡ 0 = eqb-true (station_code r) 0 z in
        rw (listed-whole e) (sym e)
    by false z = rw (listed-broken z)

  module _ (k c : ℕ) (told : c ≡ code_with (record_listing r buffer)) where
    -- Where it is not 0 nothing was written, and the list has the number and the code;
    pub broken-entry : (c ≡ 0 → ⊥) → (listed_record r buffer ≡ buffer) × (entry k r ≡ broken_line k c)
    unfolding listed_record if_done refusal entry
    broken-entry h =
        let e : c ≡ station_code r = told ∙ code_told in
        let z : eqb (station_code r) 0 ≡ false = ne_eqb (station_code r) 0 (λ q. h (e ∙ q)) in
        (rw (listed-broken z), rw (z, e))

    -- where it is 0 the station's line was.
    pub line-entry : c ≡ 0 → (length (entry k r) ≤ 249) × (listed_length r buffer ≡ length (entry k r)) × (listed_record r buffer ≡ entry k r ++ drop (length (entry k r)) buffer)
    unfolding listed_length listed_record if_done refusal entry
    line-entry h =
        let z : station_code r ≡ 0 = sym (told ∙ code_told) ∙ h in
        (rw z (line-room z), rw (listed-whole z, z), rw (listed-whole z, z))

-- Station k of a file, its record listed into the lent bytes from start on.
module _ (file out : List ℕ) (start k : ℕ) (inside : 219 * k + 219 ≤ length file) (room : start + 249 ≤ length out) (r part : List ℕ) (answer : Result ℕ Refusal) (c : ℕ)
    (found : r ≡ record_at file k) (is : RecordListed r (rest_of out start) answer part) (told : c ≡ code_with (ends answer)) where
  -- the record is whole
  r_wide : length r ≡ record_length
  r_wide = ap length found ∙ record_wide file k inside

  -- there is room for any line
  line_fits : 249 ≤ length (rest_of out start)
  line_fits = omega (arith, rest_length out start (omega arith))

  -- the code is the one that listing told
  c_told : c ≡ code_with (record_listing r (rest_of out start))
  c_told = told ∙ ap code_with is.0

  -- the list has for the station what it has for the record
  own : entry_of file k ≡ entry k r
  unfolding entry_of
  own = ap (entry k) (sym found)

  -- Where it breaks a rule its number and code are put in,
  pub broken-put : (c ≡ 0 → ⊥) → {after : List ℕ} {end : ℕ} → Appended (with_rest out start part) start (broken_line k c) after end → Appended out start (entry_of file k) after end
  broken-put h {after} {end} s =
      let e = broken-entry r (rest_of out start) r_wide line_fits k c c_told h in
      let kept : with_rest out start part ≡ out = ap (with_rest out start) (is.2 ∙ e.0) ∙ rest_kept out start in
      rw (own, e.1) (subst (λ (o : List ℕ). Appended o start (broken_line k c) after end) kept s)

  -- else its line was.
  pub line-put : c ≡ 0 → Appended out start (entry_of file k) (with_rest out start part) (start + result_unwrap_or answer 0) × (result_unwrap_or answer 0 ≤ 249)
  line-put h =
      let e = line-entry r (rest_of out start) r_wide line_fits k c c_told h in
      let l : result_unwrap_or answer 0 ≡ length (entry k r) = is.1 ∙ e.1 in
      let p : part ≡ entry k r ++ drop (length (entry k r)) (rest_of out start) = is.2 ∙ e.2 in
      (rw (own, l, p) (rest_written out start (entry k r) (omega (arith, e.0))), rw l e.0)
