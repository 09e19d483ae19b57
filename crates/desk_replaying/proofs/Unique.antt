-- The promise of the call that runs the day again leaves one answer and one content of the lent bytes and numbers.
use mathlib.Core.Path.{◌≡◌, sym, ◌∙◌}
use mathlib.Core.List.{List}
use Prim.Native.Nat.{ℕ}
use Rattle.desk_replaying.specs.Promises.{FilingReplayed}

pub one_replay : (file sheet trace : List ℕ) (a b c d e f m n : ℕ) (g h x y : List ℕ)
    → FilingReplayed file sheet trace a c e m g x → FilingReplayed file sheet trace b d f n h y
    → (a ≡ b) × (c ≡ d) × (e ≡ f) × (m ≡ n) × (g ≡ h) × (x ≡ y)
one_replay file sheet trace a b c d e f m n g h x y p q =
    (p.0 ∙ sym q.0, p.1 ∙ sym q.1, p.2 ∙ sym q.2, p.3 ∙ sym q.3, p.4 ∙ sym q.4, p.5 ∙ sym q.5)
