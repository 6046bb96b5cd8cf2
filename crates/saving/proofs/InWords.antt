-- What a run on the words of bytes tells and leaves is what a run on the bytes does. Assumes nothing.
use Prim.Native.Nat.{ℕ, ◌*◌, ◌/◌}
use mathlib.Core.Path.{◌≡◌, refl, sym, ap, ◌∙◌}
use mathlib.Core.Bool.{Bool, true, false}
use mathlib.Core.List.{List}
use native.Mathlib.Omega.{arith}
use lib.ListN.{length}
use Rattle.base.specs.Words.{Below}
use Rattle.bytewise.specs.Bytes.{words_of, bytes_of}
use Rattle.bytewise.proofs.Runs.{length-words_of}
use Rattle.flash.specs.Status.{is_empty}
use Rattle.salvage.specs.Flash.{number_from, saved_flash, Told, told, salvage_of}
use Rattle.salvage.proofs.Flash as words
use Rattle.saving.specs.InBytes.{is_size, salvage_in}
use Rattle.saving.proofs.Bytes.{whole_bytes, whole_words}
use Rattle.saving.proofs.Promised.{words_size}
use Rattle.saving.proofs.Refusals.{refused_blank, saves_all}

module _ (first second : List ℕ) (sized : is_size (length first) ≡ true) (same : length second ≡ length first) where
  abbrev W : List ℕ
  W = words_of 2 first

  abbrev V : List ℕ
  V = words_of 2 second

  as_many : length V ≡ length W
  as_many = length-words_of 2 second ∙ ap (λ (n : ℕ). n / 2) same ∙ sym (length-words_of 2 first)

  pub bytes_saved : (number : ℕ) (after : List ℕ) → Below 256 second → Below 256 after → length after ≡ length second → told number (words_of 2 after) ≡ salvage_of W V
      → told number after ≡ salvage_in first second
  bytes_saved number after low low_after long e = by (is_empty V) refl
    where
      even : length first ≡ length first / 2 * 2
      even = (whole_bytes (length first) sized).even

      as_bytes : after ≡ bytes_of 2 (words_of 2 after)
      as_bytes = whole_words after (omega (arith, even, long, same)) low_after

      by : (t : Bool) → is_empty V ≡ t → told number after ≡ salvage_in first second
      by true b =
          let q : told number (words_of 2 after) ≡ told (number_from 8 3 W * 256) (saved_flash W) = e ∙ sym (words.saves_whole W V (words_size first sized) as_many b refl) in
          ap (told number) as_bytes ∙ ap (λ (t : Told). told t.number (bytes_of 2 t.second)) q ∙ saves_all first second sized same b
      by false b =
          let q : told number (words_of 2 after) ≡ told 12 V = e ∙ sym (words.refused_blank W V (words_size first sized) as_many b) in
          ap (told number) as_bytes
          ∙ ap (λ (t : Told). told t.number (bytes_of 2 t.second)) q
          ∙ ap (told 12) (sym (whole_words second (omega (arith, even, same)) low))
          ∙ refused_blank first second sized same b
