-- A file is its records; so records replaced one after the other can be told apart by their numbers alone.
use mathlib.Core.Path.{◌≡◌, refl, sym, ap, ◌∙◌}
use mathlib.Core.Bool.{Bool, true, false, cond}
use mathlib.Core.List.{List}
use Prim.Native.Nat.{ℕ, ◌+◌, ◌*◌, ◌/◌, ◌%◌, ◌≤◌, ◌<◌}
use native.Mathlib.Nat.{mod-lt, div-add-mod}
use native.Mathlib.Omega.{arith}
use lib.ListN.{length, get_or, drop}
use lib.Seq.{ext_get_or, get_or-take, get_or-drop}
use lib.Dec.{eqb}
use borrow.Author.Tests.{eqb-true, eqb-false}
use Rattle.files.specs.Files.{record_at, with_record}
use Rattle.files.proofs.FileLaws.{record_wide}
use Rattle.files.proofs.ReplacedLaws.{replaced_length, replaced_record, other_record}

-- a byte of a file, in its record
byte_at : (file : List ℕ) (i : ℕ) → get_or file i 0 ≡ get_or (record_at file (i / 219)) (i % 219) 0
unfolding record_at
byte_at file i =
    sym
    (get_or-take 219 (drop (219 * (i / 219)) file) (i % 219) 0 (mod-lt i (omega arith))
    ∙ get_or-drop (219 * (i / 219)) file (i % 219) 0
    ∙ ap (λ (p : ℕ). get_or file p 0) (div-add-mod i 219))

-- Two files of n stations with the same records are the same file.
pub same_records : (f g : List ℕ) (n : ℕ) → length f ≡ 219 * n + 219 → length g ≡ 219 * n + 219 → ((m : ℕ) → m ≤ n → record_at f m ≡ record_at g m) → f ≡ g
same_records f g n lf lg agree =
    ext_get_or 0 f g (lf ∙ sym lg) (λ i b. byte_at f i ∙ ap (λ (t : List ℕ). get_or t (i % 219) 0) (agree (i / 219) (omega arith)) ∙ sym (byte_at g i))

module _ (n : ℕ) where
  -- A file of n stations, and a record for its number k.
  pub record Put (file : List ℕ) (k : ℕ) (r : List ℕ) : Type 0 where
    pub fits : length file ≡ 219 * n + 219
    pub low : k ≤ n
    pub size : length r ≡ 219

  module _ (file : List ℕ) (k : ℕ) (r : List ℕ) (p : Put file k r) where
    pub put-length : length (with_record file k r) ≡ 219 * n + 219
    put-length = replaced_length file k r (omega arith) p.size ∙ p.fits

    -- every record of the file with r at k
    pub put_record : (m : ℕ) → m ≤ n → record_at (with_record file k r) m ≡ cond (eqb m k) r (record_at file m)
    put_record m l = by_case (eqb m k) refl
      where
        by_case : (b : Bool) → eqb m k ≡ b → record_at (with_record file k r) m ≡ cond b r (record_at file m)
        by_case true e = let q : m ≡ k = eqb-true m k e in rw q (replaced_record file k r (omega arith) p.size)
        by_case false e = other_record file k r (omega arith) p.size m (eqb-false m k e) (omega arith)

    -- The record that stands, put in, changes no byte.
    pub put_standing : record_at file k ≡ r → with_record file k r ≡ file
    put_standing e = same_records (with_record file k r) file n put-length p.fits (λ m l. put_record m l ∙ by_case m (eqb m k) refl)
      where
        by_case : (m : ℕ) (b : Bool) → eqb m k ≡ b → cond b r (record_at file m) ≡ record_at file m
        by_case m true q = let q' : m ≡ k = eqb-true m k q in rw q' (sym e)
        by_case m false q = refl

  module _ (file : List ℕ) (i j : ℕ) (r s : List ℕ) (p : Put file i r) (q : Put file j s) where
    -- r is in, and s can still be put in
    pub then-put : Put (with_record file i r) j s
    then-put = record { fits = put-length file i r p; low = q.low; size = q.size }

    pub put_both : (m : ℕ) → m ≤ n → record_at (with_record (with_record file i r) j s) m ≡ cond (eqb m j) s (cond (eqb m i) r (record_at file m))
    put_both m l = put_record (with_record file i r) j s then-put m l ∙ rw (put_record file i r p m l)

  module _ (file : List ℕ) (i j : ℕ) (r s : List ℕ) (p : Put file i r) (q : Put file j s) where
    -- Two records at different numbers can be put in in either order,
    pub put_commutes : (i ≡ j → ⊥) → with_record (with_record file i r) j s ≡ with_record (with_record file j s) i r
    put_commutes ne =
        same_records (with_record (with_record file i r) j s) (with_record (with_record file j s) i r) n
        (put-length (with_record file i r) j s (then-put file i j r s p q))
        (put-length (with_record file j s) i r (then-put file j i s r q p))
        (λ m l. put_both file i j r s p q m l ∙ by_case m (eqb m i) (eqb m j) refl refl ∙ sym (put_both file j i s r q p m l))
      where
        by_case : (m : ℕ) (a b : Bool) → eqb m i ≡ a → eqb m j ≡ b → cond b s (cond a r (record_at file m)) ≡ cond a r (cond b s (record_at file m))
        by_case m true true x y = absurd (ne (sym (eqb-true m i x) ∙ eqb-true m j y))
        by_case m true false x y = refl
        by_case m false b x y = refl

    -- and of two at one number the later stands.
    pub put_absorbs : i ≡ j → with_record (with_record file i r) j s ≡ with_record file j s
    put_absorbs e =
        same_records (with_record (with_record file i r) j s) (with_record file j s) n
        (put-length (with_record file i r) j s (then-put file i j r s p q))
        (put-length file j s q)
        (λ m l. put_both file i j r s p q m l ∙ rw e (by_case m (eqb m j)) ∙ sym (put_record file j s q m l))
      where
        by_case : (m : ℕ) (b : Bool) → cond b s (cond b r (record_at file m)) ≡ cond b s (record_at file m)
        by_case m true = refl
        by_case m false = refl
