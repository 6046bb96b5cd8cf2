-- A turn of a copy: the words up to one, laid, and that word behind them. Assumes nothing.
use Prim.Native.Nat.{ℕ, ◌+◌, ◌≤◌, ◌<◌}
use mathlib.Core.List.{List, []}
use mathlib.Core.Path.{◌≡◌, sym, ap, ◌∙◌}
use native.Mathlib.Omega.{arith}
use native.Mathlib.Numerals.{add-one}
use lib.ListN.{length, get_or, take, set}
use lib.Seq.{take-suc, length-take-le, take-length}
use Rattle.base.specs.Words.{laid}
use Rattle.base.proofs.Laid.{length-laid, laid_none, laid_snoc}

pub laid-none : (ws : List ℕ) (at : ℕ) → laid ws at [] ≡ ws
laid-none ws at = sym (laid_none ws at)

pub laid-more : (ws new : List ℕ) (at i : ℕ) → at + length new ≤ length ws → i < length new
    → set (laid ws at (take i new)) (at + i) (get_or new i 0) ≡ laid ws at (take (i + 1) new)
laid-more ws new at i h g =
    let here : length (take i new) ≡ i = length-take-le i new (omega arith) in
    sym (ap (laid ws at) (ap (λ (j : ℕ). take j new) (add-one i) ∙ take-suc new i 0 g) ∙ laid_snoc ws at (take i new) (get_or new i 0) i here (omega arith))

pub laid-all : (ws new : List ℕ) (at i : ℕ) → i ≡ length new → laid ws at (take i new) ≡ laid ws at new
laid-all ws new at i h = ap (laid ws at) (ap (λ (j : ℕ). take j new) h ∙ take-length new)

pub length-part_laid : (ws new : List ℕ) (at i : ℕ) → at + length new ≤ length ws → i ≤ length new → length (laid ws at (take i new)) ≡ length ws
length-part_laid ws new at i h g = length-laid ws at (take i new) (omega (arith, length-take-le i new g))

pub ruleset laid_lemmas = (length-part_laid, laid-none, laid-more, laid-all)
