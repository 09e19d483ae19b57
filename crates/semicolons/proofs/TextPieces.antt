-- Each field that is kept as its bytes stands on its padding side and holds no mark where it keeps its rule.
use mathlib.Core.Path.{◌≡◌, refl, sym, ap, ◌∙◌}
use mathlib.Core.Bool.{Bool, true, false, cond, not, ◌&&◌, ◌||◌, false≢true}
use mathlib.Core.List.{List, [], ◌∷◌, ◌++◌}
use Prim.Native.Nat.{ℕ, suc, ◌+◌, ◌-◌, ◌≤◌, ◌<◌}
use native.Mathlib.Omega.{arith}
use lib.Dec.{eqb}
use lib.ListN.{length, get_or, take, drop, take-append-drop, drop_of_length-le, length-drop}
use lib.Seq.{drop-cons, drop-drop, length-take-le}
use borrow.Author.Tests.{eqb-true, not-true}
use Rattle.columns.specs.Sets.{is, among, between, is_digit, is_text, is_hex}
use Rattle.columns.specs.Texts.{head, skip, blank, trimmed, every, each, one_of, sized, how_many}
use Rattle.columns.proofs.TextLaws.{and_split, and_both, blank-spaces}
use Rattle.numerals.proofs.NumberLaws.{digit_range}
use Rattle.columns.proofs.ColumnLaws.{either}
use Rattle.emissions.specs.Emission.{bandwidth_good, is_modulation, is_signal, is_information, is_detail, is_multiplex, detail_good, emission_good}
use Rattle.remarks.specs.Remarks.{cell_good, installation_good, remarks_good}
use Rattle.fields.specs.Kinds.{emission}
use Rattle.fields.proofs.KindLaws.{text_wide_lem, remarks_wide}
use Rattle.columns.proofs.TrimLaws.{filled_cons}
use Rattle.semicolons.specs.Fields.{missing}
use Rattle.semicolons.specs.declared.Side.TheVariants as side
use Rattle.semicolons.proofs.PadLaws.{skip_pads, trim_pads}
use Rattle.semicolons.proofs.LineLaws.{plain}
use Rattle.semicolons.proofs.PieceLaws.{Piece, solid, refuses_marks, refuses_spaces, not_this, plain_byte, solid_byte, every_more, every_append, spaces-plain, solid-plain}
use Rattle.semicolons.proofs.FieldPieces.{opens, open_piece, one_passes, all_refuse, each_opens}

-- ---- one of some literals, a test for each place, and words of a set

-- the first place takes no space
abbrev pub opening : List (ℕ → Bool) → Bool
opening [] = true
opening (test ∷ tests) = not (test 32)

pub places_open : (tests : List (ℕ → Bool)) (p : List ℕ) → (all_refuse tests && opening tests) ≡ true → each tests p ≡ true → opens p ≡ true
unfolding each every
places_open [] [] r e = refl
places_open [] (c ∷ p) r e = absurd (false≢true e)
places_open (test ∷ tests) p r e = let h = and_split (all_refuse (test ∷ tests)) (not (test 32)) r in each_opens test tests p h.0 h.1 e

module _ (set : ℕ → Bool) (r : refuses_spaces set ≡ true) where
  no_space : not (set 32) ≡ true
  no_space = (and_split (refuses_marks set) (not (set 32)) r).1

  word_head : (p : List ℕ) → (not (blank p) && every set (trimmed p)) ≡ true → not (is " " (head p)) ≡ true
  unfolding skip
  word_head [] e = absurd (false≢true e)
  word_head (c ∷ p) e =
      let h = and_split (set c) (every set (trimmed p)) (sym (filled_cons set (not-true (set 32) no_space) c p) ∙ e) in
      rw (not_this set 32 c no_space h.0)

  pub word_opens : (p : List ℕ) → (not (blank p) && every set (trimmed p)) ≡ true → opens p ≡ true
  word_opens p h =
      let g = and_split (not (blank p)) (every set (trimmed p)) h in
      let front : every plain (trimmed p) ≡ true = every_more set plain (plain_byte set (and_split (refuses_marks set) (not (set 32)) r).0) (trimmed p) g.1 in
      let all : every plain (trimmed p ++ missing (length p) (trimmed p)) ≡ true = every_append plain (trimmed p) (missing (length p) (trimmed p)) front (spaces-plain (length p - length (trimmed p))) in
      and_both (every plain p) (not (is " " (head p))) (rw (trim_pads p) at all) (word_head p h)

-- ---- 7A and 13Z, part by part

every-parts : (test : ℕ → Bool) (n : ℕ) (p : List ℕ) → every test (take n p) ≡ true → every test (drop n p) ≡ true → every test p ≡ true
every-parts test n p e f = sym (ap (every test) (take-append-drop n p)) ∙ every_append test (take n p) (drop n p) e f

every_at : (test : ℕ → Bool) (i : ℕ) (p : List ℕ) → i < length p → test (get_or p i 0) ≡ true → every test (drop (suc i) p) ≡ true → every test (drop i p) ≡ true
unfolding every
every_at test i p h e f = rw (drop-cons p i 0 h) (and_both (test (get_or p i 0)) (every test (drop (suc i) p)) e f)

every_end : (test : ℕ → Bool) (i : ℕ) (p : List ℕ) → length p ≤ i → every test (drop i p) ≡ true
unfolding every
every_end test i p h = rw (drop_of_length-le p h)

-- bytes that all are counted
most : (test : ℕ → Bool) (p : List ℕ) → how_many test p ≤ length p
unfolding how_many
most test [] = omega arith
most test (c ∷ p) = by (test c) (most test p) where
  by : (b : Bool) → how_many test p ≤ length p → cond b 1 0 + how_many test p ≤ suc (length p)
  by true l = omega arith
  by false l = omega arith

all_counted : (test : ℕ → Bool) (p : List ℕ) → length p ≤ how_many test p → every test p ≡ true
unfolding how_many every
all_counted test [] h = refl
all_counted test (c ∷ p) h = by (test c) (all_counted test p) h where
  by : (b : Bool) → (length p ≤ how_many test p → every test p ≡ true) → suc (length p) ≤ cond b 1 0 + how_many test p → (b && every test p) ≡ true
  by true f l = f (omega arith)
  by false f l = absurd (omega (arith, most test p))

-- two counts of bytes that no byte is in twice
two_counts : (a b both : ℕ → Bool) → ((c : ℕ) → cond (a c) 1 0 + cond (b c) 1 0 ≤ cond (both c) 1 0) → (p : List ℕ) → how_many a p + how_many b p ≤ how_many both p
unfolding how_many
two_counts a b both f [] = omega arith
two_counts a b both f (c ∷ p) = omega (arith, f c, two_counts a b both f p)

-- a digit is no letter
apart : (c : ℕ) → is_digit c ≡ true → among "HKMG" c ≡ true → ⊥
unfolding among
apart c d e =
    let r = digit_range c d in
    either (is "H" c) (is "K" c || (is "M" c || (is "G" c || false))) e (λ f. omega (arith, r.1, eqb-true c 72 f))
    (λ e. either (is "K" c) (is "M" c || (is "G" c || false)) e (λ f. omega (arith, r.1, eqb-true c 75 f))
    (λ e. either (is "M" c) (is "G" c || false) e (λ f. omega (arith, r.1, eqb-true c 77 f))
    (λ e. either (is "G" c) false e (λ f. omega (arith, r.1, eqb-true c 71 f)) (λ e. false≢true e))))

solid-count : (c : ℕ) → cond (is_digit c) 1 0 + cond (among "HKMG" c) 1 0 ≤ cond (solid c) 1 0
solid-count c = by (is_digit c) (among "HKMG" c) (solid c) (apart c) (solid_byte is_digit refl c) (solid_byte (among "HKMG") (unfold among in refl) c) where
  by : (a b s : Bool) → (a ≡ true → b ≡ true → ⊥) → (a ≡ true → s ≡ true) → (b ≡ true → s ≡ true) → cond a 1 0 + cond b 1 0 ≤ cond s 1 0
  by true true s n f g = absurd (n refl refl)
  by true false s n f g = rw (f refl) (omega arith)
  by false true s n f g = rw (g refl) (omega arith)
  by false false s n f g = omega arith

bandwidth_solid : (p : List ℕ) → bandwidth_good p ≡ true → every solid p ≡ true
unfolding bandwidth_good
bandwidth_solid p e =
    let a = sized 4 p in
    let b = eqb (how_many is_digit p) 3 in
    let c = eqb (how_many (among "HKMG") p) 1 in
    let h = (and_split (a && b && c) (not (among "0KMG" (head p))) e).0 in
    let g = and_split (a && b) c h in
    let k = and_split a b g.0 in
    let l : length p ≡ 4 = eqb-true (length p) 4 k.0 in
    let m : how_many is_digit p ≡ 3 = eqb-true (how_many is_digit p) 3 k.1 in
    let n : how_many (among "HKMG") p ≡ 1 = eqb-true (how_many (among "HKMG") p) 1 g.1 in
    all_counted solid p (omega (arith, l, m, n, two_counts is_digit (among "HKMG") solid solid-count p))

solid-head : (p : List ℕ) → every solid (take 4 p) ≡ true → not (is " " (head p)) ≡ true
unfolding every
solid-head [] e = refl
solid-head (c ∷ p) e = (and_split (plain c) (not (is " " c)) (and_split (solid c) (every solid (take 3 p)) e).0).1

detail_plain : (x y : ℕ) → detail_good x y ≡ true → (plain x ≡ true) × (plain y ≡ true)
unfolding detail_good
detail_plain x y e =
    either (is " " x && is " " y) (is_detail x && (is " " y || is_multiplex y)) e
    (λ f. let h = and_split (is " " x) (is " " y) f in (plain_byte (is " ") refl x h.0, plain_byte (is " ") refl y h.1))
    (λ f.
    let h = and_split (is_detail x) (is " " y || is_multiplex y) f in
    (plain_byte is_detail (unfold among in refl) x h.0, either (is " " y) (is_multiplex y) h.1 (λ g. plain_byte (is " ") refl y g) (λ g. plain_byte is_multiplex (unfold among in refl) y g)))

emission_parts : (p : List ℕ) → emission_good p ≡ true
    → (bandwidth_good (take 4 p) && is_modulation (get_or p 4 0) && is_signal (get_or p 5 0) && is_information (get_or p 6 0) && detail_good (get_or p 7 0) (get_or p 8 0)) ≡ true
unfolding emission_good
emission_parts p e = (and_split (sized 9 p) _ e).1

pub emission_piece : (p : List ℕ) → emission_good p ≡ true → Piece side.Right 9 p
emission_piece p e =
    let w : length p ≡ 9 = text_wide_lem emission 9 refl p e in
    let b = bandwidth_good (take 4 p) in
    let m = is_modulation (get_or p 4 0) in
    let s = is_signal (get_or p 5 0) in
    let i = is_information (get_or p 6 0) in
    let d = detail_good (get_or p 7 0) (get_or p 8 0) in
    let h₀ : (b && m && s && i && d) ≡ true = emission_parts p e in
    let h₁ = and_split (b && m && s && i) d h₀ in
    let h₂ = and_split (b && m && s) i h₁.0 in
    let h₃ = and_split (b && m) s h₂.0 in
    let h₄ = and_split b m h₃.0 in
    let front : every solid (take 4 p) ≡ true = bandwidth_solid (take 4 p) h₄.0 in
    let last = detail_plain (get_or p 7 0) (get_or p 8 0) h₁.1 in
    let t₈ = every_at plain 8 p (omega arith) last.1 (every_end plain 9 p (omega arith)) in
    let t₇ = every_at plain 7 p (omega arith) last.0 t₈ in
    let t₆ = every_at plain 6 p (omega arith) (plain_byte is_information (unfold among in refl) (get_or p 6 0) h₂.1) t₇ in
    let t₅ = every_at plain 5 p (omega arith) (plain_byte is_signal (unfold among in refl) (get_or p 5 0) h₃.1) t₆ in
    let t₄ = every_at plain 4 p (omega arith) (plain_byte is_modulation (unfold among in refl) (get_or p 4 0) h₄.1) t₅ in
    let all = every-parts plain 4 p (every_more solid plain solid-plain (take 4 p) front) t₄ in
    open_piece 9 p w (and_both (every plain p) (not (is " " (head p))) all (solid-head p front))

blank-plain : (p : List ℕ) → blank p ≡ true → every plain p ≡ true
blank-plain p e = sym (ap (every plain) (blank-spaces p e)) ∙ spaces-plain (length p)

cell-plain : (p : List ℕ) → cell_good p ≡ true → every plain p ≡ true
unfolding cell_good
cell-plain p e =
    sym (ap (every plain) (skip_pads p))
    ∙ every_append plain (missing (length p) (skip p)) (skip p) (spaces-plain (length p - length (skip p))) (every_more is_hex plain (plain_byte is_hex (unfold is_hex in refl)) (skip p) e)

installation_plain : (p : List ℕ) → length p ≡ 3 → installation_good p ≡ true → every plain p ≡ true
unfolding installation_good
installation_plain p n e =
    either (blank p) (one_of (" 0" ∷ " 2" ∷ "10" ∷ []) (take 2 p) && among "IO" (get_or p 2 0)) e (blank-plain p)
    (λ f.
    let h = and_split (one_of (" 0" ∷ " 2" ∷ "10" ∷ []) (take 2 p)) (among "IO" (get_or p 2 0)) f in
    let two = one_passes (every plain) (" 0" ∷ " 2" ∷ "10" ∷ []) (take 2 p) (unfold every in refl) h.0 in
    every-parts plain 2 p two (every_at plain 2 p (omega arith) (plain_byte (among "IO") (unfold among in refl) (get_or p 2 0) h.1) (every_end plain 3 p (omega arith))))

filled-plain : (p : List ℕ) → length p ≡ 50
    → (between "2" "5" (head p) && cell_good (take 9 (drop 1 p)) && installation_good (take 3 (drop 10 p)) && every is_text (drop 13 p)) ≡ true → every plain p ≡ true
filled-plain p n e =
    let g = between "2" "5" (head p) in
    let c = cell_good (take 9 (drop 1 p)) in
    let i = installation_good (take 3 (drop 10 p)) in
    let h₁ = and_split (g && c && i) (every is_text (drop 13 p)) e in
    let h₂ = and_split (g && c) i h₁.0 in
    let h₃ = and_split g c h₂.0 in
    let room : length (drop 10 p) ≡ 40 = length-drop 10 p ∙ rw n in
    let t₁₃ : every plain (drop 13 p) ≡ true = every_more is_text plain (plain_byte is_text (unfold is_text among in refl)) (drop 13 p) h₁.1 in
    let three : every plain (take 3 (drop 10 p)) ≡ true = installation_plain (take 3 (drop 10 p)) (length-take-le 3 (drop 10 p) (omega arith)) h₂.1 in
    let t₁₀ : every plain (drop 10 p) ≡ true = every-parts plain 3 (drop 10 p) three (rw (drop-drop 3 10 p) t₁₃) in
    let t₁ : every plain (drop 1 p) ≡ true = every-parts plain 9 (drop 1 p) (cell-plain (take 9 (drop 1 p)) h₃.1) (rw (drop-drop 9 1 p) t₁₀) in
    every_at plain 0 p (omega arith) (plain_byte (between "2" "5") refl (head p) h₃.0) t₁

remarks_parts : (p : List ℕ) → remarks_good p ≡ true
    → (blank p || (between "2" "5" (head p) && cell_good (take 9 (drop 1 p)) && installation_good (take 3 (drop 10 p)) && every is_text (drop 13 p))) ≡ true
unfolding remarks_good
remarks_parts p e = (and_split (sized 50 p) _ e).1

pub remarks_piece : (p : List ℕ) → remarks_good p ≡ true → Piece side.Kept 50 p
remarks_piece p e =
    let w : length p ≡ 50 = remarks_wide p e in
    let filled = between "2" "5" (head p) && cell_good (take 9 (drop 1 p)) && installation_good (take 3 (drop 10 p)) && every is_text (drop 13 p) in
    let h : (blank p || filled) ≡ true = remarks_parts p e in
    record { wide = w; stands = tt; unmarked = either (blank p) filled h (blank-plain p) (filled-plain p w) }
