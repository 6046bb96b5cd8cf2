-- Words that are set to FFFF one by one, and words that are looked at one by one for FFFF. Assumes nothing.
use Rattle.std.proofs.Common.{◌≡◌, ◌==◌, refl, sym, ap, ◌∙◌, ℕ, suc, ◌+◌, ◌≤◌, ◌<◌, List, [], ◌∷◌, Bool, true, false, ◌&&◌, arith}
use Rattle.std.specs.List.{list_all}
use lib.ListN.{length, get_or, take, drop, set, length-replicate, replicate-append-replicate, drop_of_length-le}
use lib.Seq.{drop-cons}
use native.Mathlib.Numerals.{add-one}
use Rattle.base.specs.Words.{laid, blanks}
use Rattle.base.proofs.Laid.{length-laid, laid_none, laid_snoc}

pub blanks_none : (ws : List ℕ) (at : ℕ) → laid ws at (blanks 0) ≡ ws
blanks_none ws at = sym (laid_none ws at)

pub blanks_more : (ws : List ℕ) (at i : ℕ) → at + i < length ws → set (laid ws at (blanks i)) (at + i) 0xFFFF ≡ laid ws at (blanks (i + 1))
blanks_more ws at i h =
    sym (ap (laid ws at) (sym (replicate-append-replicate i 1 0xFFFF))
    ∙ laid_snoc ws at (blanks i) 0xFFFF i (length-replicate i 0xFFFF) h)

pub length-blanks_laid : (ws : List ℕ) (at i : ℕ) → at + i ≤ length ws → length (laid ws at (blanks i)) ≡ length ws
length-blanks_laid ws at i h = length-laid ws at (blanks i) (omega (arith, length-replicate {A = ℕ} i 0xFFFF))

pub ruleset blanks_lemmas = (blanks_none, blanks_more, length-blanks_laid)

abbrev pub is_ones : ℕ → Bool
is_ones w = w == 0xFFFF

pub all_turn : (ws : List ℕ) (i : ℕ) → i < length ws → list_all is_ones (drop i ws) ≡ (is_ones (get_or ws i 0) && list_all is_ones (drop (i + 1) ws))
all_turn ws i h = rw (add-one, drop-cons ws i 0)

pub all_end : (ws : List ℕ) (i : ℕ) → length ws ≤ i → list_all is_ones (drop i ws) ≡ true
all_end ws i h = ap (list_all is_ones) (drop_of_length-le ws {i = i} h)
