-- Names one after the other are those of a table's rows, by one computed test; and a number behind the last row has none. With spaces behind them,
-- names and words are what is left with the spaces off.
use mathlib.Core.Path.{◌≡◌, refl, sym, ap, ◌∙◌}
use mathlib.Core.Bool.{Bool, true, ◌&&◌}
use mathlib.Core.List.{List, [], ◌∷◌, ◌++◌}
use Prim.Native.Nat.{ℕ, zero, suc, ◌+◌, ◌-◌, ◌≤◌, ◌<◌}
use native.Mathlib.Omega.{arith}
use native.Mathlib.Numerals.{sub-one}
use lib.Dec.{leb}
use lib.ListN.{length, get_or, replicate, length-append, length-replicate, get_or-eq_default}
use borrow.Author.Tests.{leb-true}
use denote.Ref.{Bor}
use Rattle.columns.specs.Sets.{is}
use Rattle.columns.specs.Texts.{bytes, ended, skip, blank, trimmed, same}
use Rattle.columns.proofs.TextLaws.{and_split, skip-spaces}
use Rattle.columns.proofs.SameLaws.{same_true}
use Rattle.columns.proofs.TrimLaws.{blank_cons}
use Rattle.fields.specs.Kinds.{remarks}
use Rattle.fields.specs.Rows.{Row, field, row_behind}
use Rattle.fields.specs.Table.{station_table}
use Rattle.flaws.specs.declared.Flaw.{Flaw}
use Rattle.flaws.specs.declared.Flaw.TheVariants as flaw
use Rattle.wording.specs.Words.{flaw_words, name_at, named}

-- A name that passes the test is that of its row,
pub name_behind : (names : List (Bor (List ℕ))) (none : Bor (List ℕ)) (rs : List Row) → named names rs ≡ true → (i : ℕ) → i < length rs
    → ((get_or names i none).now ≡ bytes (row_behind rs i).name) × (length (get_or names i none).now ≤ 10)
name_behind names none [] e i h = absurd (omega arith)
name_behind [] none (r ∷ rs) e i h = cc
name_behind (n ∷ names) none (r ∷ rs) e zero h =
    let here = and_split (same n.now (bytes r.name)) (leb (length n.now) 10 && named names rs) e in
    (same_true n.now (bytes r.name) here.0, leb-true (length n.now) 10 (and_split (leb (length n.now) 10) (named names rs) here.1).0)
name_behind (n ∷ names) none (r ∷ rs) e (suc i) h =
    let here = and_split (same n.now (bytes r.name)) (leb (length n.now) 10 && named names rs) e in
    name_behind names none rs (and_split (leb (length n.now) 10) (named names rs) here.1).1 i (omega arith)

-- a number that is not 0 has the name of its row,
pub name_is : (k : ℕ) → (k ≡ 0 → ⊥) → name_at k ≡ bytes (row_behind station_table (k - 1)).name
unfolding name_at
name_is zero n = absurd (n refl)
name_is (suc i) n = rw sub-one

-- and one behind the last row has none.
pub no_name : (k : ℕ) → 30 < k → name_at k ≡ []
unfolding name_at
no_name zero h = absurd (omega arith)
no_name (suc i) h = ap (λ (r : Row). bytes r.name) (get_or-eq_default station_table (field "" 0 0 remarks) {n = i} (omega arith))

-- Spaces behind a text change neither whether it is blank nor what is left with trailing spaces off.
blank_padded : (p : List ℕ) (n : ℕ) → blank (p ++ replicate n 32) ≡ blank p
blank_padded [] n = ap ended (skip-spaces n) ∙ unfold skip in refl
blank_padded (c ∷ p) n = blank_cons c (p ++ replicate n 32) ∙ ap (λ (b : Bool). is " " c && b) (blank_padded p n) ∙ sym (blank_cons c p)

spaces_off : (n : ℕ) → trimmed (replicate n 32) ≡ []
unfolding trimmed
spaces_off zero = refl
spaces_off (suc n) = rw (skip-spaces (suc n))

trimmed-padded : (p : List ℕ) (n : ℕ) → trimmed (p ++ replicate n 32) ≡ trimmed p
unfolding trimmed
trimmed-padded [] n = spaces_off n
trimmed-padded (c ∷ p) n = rw (blank_padded (c ∷ p) n, trimmed-padded p n)

-- So a text that ends in no space is what is left of it in n places with spaces behind it.
pub padding_off : (n : ℕ) (wide text said : List ℕ) → wide ≡ text ++ replicate (n - length text) 32 → length text ≤ n → text ≡ said → trimmed said ≡ said
    → (trimmed wide ≡ said) × (length wide ≡ n)
padding_off n wide text said e h f g =
    let spaces = replicate (n - length text) 32 in
    let long : length wide ≡ length text + length spaces = ap length e ∙ length-append text spaces in
    (ap trimmed e ∙ trimmed-padded text (n - length text) ∙ ap trimmed f ∙ g, omega (arith, long, length-replicate {A = ℕ} (n - length text) 32))

-- The names of a table's rows end in no space, by one computed test,
abbrev whole : List Row → Bool
whole [] = true
whole (r ∷ rs) = same (trimmed (bytes r.name)) (bytes r.name) && whole rs

row_whole : (rs : List Row) → whole rs ≡ true → (i : ℕ) → trimmed (bytes (row_behind rs i).name) ≡ bytes (row_behind rs i).name
row_whole [] e i = unfold trimmed in refl
row_whole (r ∷ rs) e zero = same_true (trimmed (bytes r.name)) (bytes r.name) (and_split (same (trimmed (bytes r.name)) (bytes r.name)) (whole rs) e).0
row_whole (r ∷ rs) e (suc i) = row_whole rs (and_split (same (trimmed (bytes r.name)) (bytes r.name)) (whole rs) e).1 i

table_whole : whole station_table ≡ true
unfolding trimmed skip same
table_whole = refl

pub name_whole : (k : ℕ) → trimmed (name_at k) ≡ name_at k
unfolding name_at
name_whole zero = unfold trimmed in refl
name_whole (suc i) = row_whole station_table table_whole i

-- and neither do the words of a flaw.
pub words_whole : (f : Flaw) → trimmed (flaw_words f) ≡ flaw_words f
unfolding trimmed skip
words_whole flaw.None = refl
words_whole flaw.Byte = refl
words_whole flaw.Range = refl
words_whole flaw.Shape = refl
words_whole flaw.Between = refl
