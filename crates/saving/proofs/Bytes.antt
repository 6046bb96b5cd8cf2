-- The bytes of a flash of one of the two sizes, and those of whole words. Assumes nothing.
use Prim.Native.Nat.{ℕ, ◌*◌, ◌/◌, ◌≤◌}
use mathlib.Core.Path.{◌≡◌, refl, sym, ◌∙◌}
use mathlib.Core.Bool.{Bool, true, false, ◌||◌, false≢true}
use mathlib.Core.List.{List}
use native.Mathlib.Omega.{arith}
use lib.Dec.{eqb}
use lib.ListN.{length}
use lib.Seq.{take_all}
use borrow.Author.Tests.{eqb-true}
use Rattle.base.specs.Words.{Below}
use Rattle.bytewise.specs.Bytes.{words_of, bytes_of}
use Rattle.bytewise.proofs.Runs.{bytes_words}
use Rattle.saving.specs.InBytes.{is_size}

-- what both sizes are: whole sixteenths, and even
pub record Whole (n : ℕ) : Type 0 where
  pub units : n / 2 ≡ n / 2 / 16 * 16
  pub even : n ≡ n / 2 * 2
  pub least : 65536 ≤ n
  pub other : (n ≡ 65536 → ⊥) → n ≡ 524288

pub whole_bytes : (n : ℕ) → is_size n ≡ true → Whole n
whole_bytes n e = by (eqb n 65536) (eqb n 524288) refl refl e
  where
    by : (t v : Bool) → eqb n 65536 ≡ t → eqb n 524288 ≡ v → (t || v) ≡ true → Whole n
    by true v p q r = let k = eqb-true n 65536 p in record { units = omega (arith, k); even = omega (arith, k); least = omega (arith, k); other = λ f. absurd (f k) }
    by false true p q r = let k = eqb-true n 524288 q in record { units = omega (arith, k); even = omega (arith, k); least = omega (arith, k); other = λ _. k }
    by false false p q r = absurd (false≢true r)

-- bytes of whole words are those of their words
pub whole_words : (bs : List ℕ) → length bs ≡ length bs / 2 * 2 → Below 256 bs → bs ≡ bytes_of 2 (words_of 2 bs)
unfolding words_of
whole_words bs even b = sym (bytes_words 2 (length bs / 2) bs (omega arith) b ∙ take_all (length bs / 2 * 2) bs (omega (arith, even)))
