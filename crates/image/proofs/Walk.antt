-- One segment more of a file.
use Rattle.std.proofs.Common.{◌≡◌, ℕ, suc, refl, ◌+◌, ◌-◌, ◌<◌, List, slice_range, Some, None, arith}
use Rattle.image.specs.Segment.{segment_end}
use Rattle.base.specs.Words.{part}
use Rattle.image.specs.File.{walk}

pub walk_some : (ws : List ℕ) (n i at end : ℕ) → i < n → segment_end ws at ≡ Some end → walk (n - (i + 1)) ws end ≡ walk (n - i) ws at
unfolding walk
walk_some ws n i at end h e =
    let s : n - i ≡ suc (n - (i + 1)) = omega arith in
    rw (s, e) refl

pub walk_none : (ws : List ℕ) (n i at : ℕ) → i < n → segment_end ws at ≡ None → walk (n - i) ws at ≡ None
unfolding walk
walk_none ws n i at h e =
    let s : n - i ≡ suc (n - (i + 1)) = omega arith in
    rw (s, e) refl

pub walk_all : (ws : List ℕ) (n i at : ℕ) → n ≡ i → walk (n - i) ws at ≡ Some at
unfolding walk
walk_all ws n i at e = let s : n - i ≡ 0 = omega arith in rw s refl

pub part_is : (ws : List ℕ) (at n : ℕ) → slice_range ws at (at + n) ≡ part ws at n
part_is ws at n = let e : at + n - at ≡ n = omega arith in rw e refl

pub ruleset walk_lemmas = (walk_some, walk_none, walk_all)
