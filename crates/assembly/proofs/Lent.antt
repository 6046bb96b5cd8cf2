-- The first 12,288 words of a run of bytes, lent on as the bytes that they are, and given back with others in their place. Assumes nothing.
use Prim.Native.Nat.{ℕ, ◌+◌, ◌*◌, ◌/◌, ◌≤◌}
use mathlib.Core.Path.{◌≡◌, sym, ap, ◌∙◌}
use mathlib.Core.List.{List, ◌++◌}
use native.Mathlib.Omega.{arith}
use lib.ListN.{length, take, drop, length-append, length-drop}
use lib.Seq.{length-take-le, take_at, drop_at}
use Rattle.bytewise.specs.Bytes.{words_in, words_of}
use Rattle.bytewise.proofs.Runs.{words_take}
use Rattle.assembly.specs.Held.{Rest, buffer_words}

-- bytes that are just so many words
whole_words : (bs : List ℕ) → length bs ≡ 24576 → words_of 2 bs ≡ buffer_words bs
unfolding words_of
whole_words bs l = let n : length bs / 2 ≡ 12288 = omega (arith, l) in ap (λ (k : ℕ). words_in 2 k bs) n

module _ (bs : List ℕ) (buffer : 12288 ≤ length bs / 2) where
  pub lent_long : length (take 24576 bs) ≡ 24576
  lent_long = length-take-le 24576 bs (omega arith)

  pub lent : words_of 2 (take 24576 bs) ≡ buffer_words bs
  lent = whole_words (take 24576 bs) lent_long ∙ words_take 2 12288 bs

  pub given_back : (new : List ℕ) → length new ≡ length (take 24576 bs)
      → (words_of 2 new ≡ buffer_words (new ++ drop 24576 bs)) × Rest 2 12288 bs (new ++ drop 24576 bs)
  given_back new l =
      let long : length new ≡ 24576 = l ∙ lent_long in (
        whole_words new long
            ∙ ap buffer_words (sym (take_at new (drop 24576 bs) 24576 long))
            ∙ words_take 2 12288 (new ++ drop 24576 bs),
        record {
          size = length-append new (drop 24576 bs) ∙ omega (arith, long, length-drop 24576 bs, buffer);
          bytes = drop_at new (drop 24576 bs) 24576 long;
        },
      )
