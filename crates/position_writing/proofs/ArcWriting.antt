-- One half of 4C over the columns of its degrees, and two halves: what is written is the spelling.
use mathlib.Core.Path.{◌≡◌, sym, ap, ◌∙◌}
use mathlib.Core.List.{List, [], ◌∷◌, ◌++◌, append-nil}
use Prim.Native.Nat.{ℕ, ◌+◌, ◌-◌, ◌/◌, ◌%◌, ◌≤◌}
use native.Mathlib.Omega.{arith}
use lib.ListN.{length, set, take, drop, length-append, drop_of_length-le}
use lib.Seq.{length-take-le, take_all, take_at, drop_at, take-append-le, take-take, drop-drop}
use borrow.Rule.Slice.PartMut.{put_mid, mid_of, post_of, mid_len, Post-is}
use Rattle.numerals.specs.Numbers.{spell_digits, spell_whole}
use Rattle.numerals.proofs.Spelling.{set_before}
use Rattle.numerals.proofs.RoundTrip.{spelled_front}

-- a number written in a part, in front of what stands from the part's end on
pub part_before : (s s₁ t y : List ℕ) (at e v : ℕ) → at ≤ e → e ≤ length s → s₁ ≡ take e s ++ t → y ≡ spell_whole (length (mid_of at (e - at) s₁)) v
    → put_mid at (e - at) s₁ y ≡ take at s ++ spell_digits (e - at) v t
part_before s s₁ t y at e v a n f h =
    let l : length (take e s) ≡ e = length-take-le e s n in
    let m : e ≤ length s₁ = omega (arith, ap length f, length-append (take e s) t) in
    let w : y ≡ spell_digits (e - at) v [] = h ∙ rw (mid_len at e s₁ m) in
    let p : take at s₁ ≡ take at s = rw f (take-append-le at (take e s) t (omega arith) ∙ take-take at e s a) in
    let q : post_of at (e - at) s₁ ≡ t = Post-is at e s₁ a ∙ rw f (drop_at (take e s) t e l) in
    rw (p, w, q) (ap (λ (x : List ℕ). take at s ++ x) (sym (spelled_front (e - at) v t)))

-- seconds, minutes, the letter and the degrees, written from the last to the first
pub arc_written : (s y₁ y₂ y₃ : List ℕ) (d x n : ℕ) → length s ≡ d + 5
    → let s₁ = put_mid (d + 3) (d + 5 - (d + 3)) s y₁ in let s₂ = set (put_mid (d + 1) (d + 3 - (d + 1)) s₁ y₂) d x in
    y₁ ≡ spell_whole (length (mid_of (d + 3) (d + 5 - (d + 3)) s)) (n % 60)
    → y₂ ≡ spell_whole (length (mid_of (d + 1) (d + 3 - (d + 1)) s₁)) (n / 60 % 60)
    → y₃ ≡ spell_whole (length (mid_of 0 (d - 0) s₂)) (n / 3600)
    → put_mid 0 (d - 0) s₂ y₃ ≡ spell_digits d (n / 3600) (x ∷ spell_digits 2 (n / 60 % 60) (spell_digits 2 (n % 60) []))
arc_written s y₁ y₂ y₃ d x n l h₁ h₂ h₃ =
    let s₁ = put_mid (d + 3) (d + 5 - (d + 3)) s y₁ in
    let m = put_mid (d + 1) (d + 3 - (d + 1)) s₁ y₂ in
    let two : d + 5 - (d + 3) ≡ 2 = omega arith in
    let two' : d + 3 - (d + 1) ≡ 2 = omega arith in
    let all : d - 0 ≡ d = omega arith in
    let whole : s ≡ take (d + 5) s ++ [] = sym (append-nil (take (d + 5) s) ∙ take_all (d + 5) s (omega arith)) in
    let e₁ = part_before s s [] y₁ (d + 3) (d + 5) (n % 60) (omega arith) (omega arith) whole h₁ in
    let e₂ = part_before s s₁ (spell_digits (d + 5 - (d + 3)) (n % 60) []) y₂ (d + 1) (d + 3) (n / 60 % 60) (omega arith) (omega arith) e₁ h₂ in
    let t = spell_digits (d + 3 - (d + 1)) (n / 60 % 60) (spell_digits (d + 5 - (d + 3)) (n % 60) []) in
    let e₃ = set_before s m t d x (omega arith) e₂ in
    part_before s (set m d x) (x ∷ t) y₃ 0 d (n / 3600) (omega arith) (omega arith) e₃ h₃ ∙ rw (two, two', all)

-- two parts that are all of a list, written one after the other
pub two-parts : (s y z : List ℕ) (a b : ℕ) → length s ≡ a + b → length y ≡ a → put_mid a b (put_mid 0 a s y) z ≡ y ++ z
two-parts s y z a b n l =
    let t : take a (y ++ drop a s) ≡ y = take_at y (drop a s) a l in
    let r : drop b (drop a (y ++ drop a s)) ≡ [] = rw (drop_at y (drop a s) a l, drop-drop b a s) (drop_of_length-le s {i = a + b} (omega arith)) in
    rw (t, r, append-nil z)
