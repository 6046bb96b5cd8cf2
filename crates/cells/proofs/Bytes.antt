-- Words in runs of bytes, at k bytes a word: how many there are, which one stands where, what a store changes and what it leaves, and
-- the words of a part. Assumes nothing.
use Prim.Native.Nat.{ℕ, zero, suc, ◌+◌, ◌-◌, ◌*◌, ◌/◌, ◌^◌, ◌≤◌, ◌<◌}
use native.Mathlib.Omega.{arith}
use native.Mathlib.Nat.{add-mul}
use mathlib.Core.List.{List, ◌++◌}
use mathlib.Core.Path.{◌≡◌, sym, ap, ◌∙◌}
use lib.ListN.{length, get_or, take, drop, set, take-append-drop, length-drop}
use Rattle.std.specs.List.{slice_range}
use lib.Seq.{take_at, drop_at, length-take-le}
use Rattle.base.specs.Words.{laid, Below}
use Rattle.base.proofs.Laid.{length-laid, laid-append_right, laid-append_left}
use Rattle.bytewise.specs.Bytes.{digits_of, number_at, words_in, words_of}
use Rattle.bytewise.proofs.Runs.{length_digits, value_digits, length-words_of, word_in, laid_front, part_each, below_each}
use Rattle.cells.specs.Runs.{rest_of, two_bytes, four_bytes}

pub count_words : (k : ℕ) (bytes : List ℕ) → length bytes / k ≡ length (words_of k bytes)
count_words k bytes = sym (length-words_of k bytes)

pub get_words : (k i : ℕ) (bytes : List ℕ) → i < length (words_of k bytes) → get_or (words_of k bytes) i 0 ≡ number_at k (i * k) bytes
unfolding words_of
get_words k i bytes h = word_in k (length bytes / k) i bytes (omega (arith, length-words_of k bytes))

-- a word stored in the first n

put_in : (k n i w : ℕ) (bytes : List ℕ) → i < n → n * k ≤ length bytes → w < 256 ^ k → words_in k n (laid bytes (i * k) (digits_of k w)) ≡ set (words_in k n bytes) i w
unfolding words_in
put_in k zero i w bytes h fits small = let z : ⊥ = omega arith in absurd z
put_in k (suc n) zero w bytes h fits small =
    let z : 0 * k ≡ 0 = omega arith in
    rw (z, laid_front bytes (digits_of k w) k (length_digits k w), take_at (digits_of k w) (drop k bytes) k (length_digits k w), drop_at (digits_of k w) (drop k bytes) k (length_digits k w), value_digits k w small)
put_in k (suc n) (suc i) w bytes h fits small =
    let first : length (take k bytes) ≡ k = length-take-le k bytes (omega arith) in
    let e : suc i * k ≡ length (take k bytes) + i * k = omega (arith, first) in
    let changed = laid (drop k bytes) (i * k) (digits_of k w) in
    let apart : laid bytes (suc i * k) (digits_of k w) ≡ take k bytes ++ changed =
    ap (λ (l : List ℕ). laid l (suc i * k) (digits_of k w)) (sym (take-append-drop k bytes))
    ∙ ap (λ (j : ℕ). laid (take k bytes ++ drop k bytes) j (digits_of k w)) e
    ∙ laid-append_right (take k bytes) (drop k bytes) (i * k) (digits_of k w) in
    let word : take k (take k bytes ++ changed) ≡ take k bytes = take_at (take k bytes) changed k first in
    let others : drop k (take k bytes ++ changed) ≡ changed = drop_at (take k bytes) changed k first in
    let more : words_in k n changed ≡ set (words_in k n (drop k bytes)) i w = put_in k n i w (drop k bytes) (omega arith) (simp length-drop (omega arith)) small in
    ap (words_in k (suc n)) apart
    ∙ rw (word, others, more)

pub put_words : (k i w : ℕ) (bytes : List ℕ) → i < length (words_of k bytes) → i * k + k ≤ length bytes → length bytes / k * k ≤ length bytes → w < 256 ^ k
    → words_of k (laid bytes (i * k) (digits_of k w)) ≡ set (words_of k bytes) i w
unfolding words_of
put_words k i w bytes h room fits small =
    let long : length (laid bytes (i * k) (digits_of k w)) ≡ length bytes = length-laid bytes (i * k) (digits_of k w) (omega (arith, length_digits k w)) in
    ap (λ (n : ℕ). words_in k (n / k) (laid bytes (i * k) (digits_of k w))) long
    ∙ put_in k (length bytes / k) i w bytes (omega (arith, length-words_of k bytes)) fits small

-- what stands behind the words stays

drop-laid : (bytes : List ℕ) (at n : ℕ) (new : List ℕ) → at + length new ≤ n → n ≤ length bytes → drop n (laid bytes at new) ≡ drop n bytes
drop-laid bytes at n new h fits =
    let front : length (take n bytes) ≡ n = length-take-le n bytes fits in
    ap (λ (l : List ℕ). drop n (laid l at new)) (sym (take-append-drop n bytes))
    ∙ ap (drop n) (laid-append_left (take n bytes) (drop n bytes) at new (omega arith))
    ∙ drop_at (laid (take n bytes) at new) (drop n bytes) n (length-laid (take n bytes) at new (omega arith) ∙ front)

pub rest_put : (k i w : ℕ) (bytes : List ℕ) → i * k + k ≤ length bytes / k * k → length bytes / k * k ≤ length bytes
    → rest_of k (laid bytes (i * k) (digits_of k w)) ≡ rest_of k bytes
rest_put k i w bytes room fits =
    let long : length (laid bytes (i * k) (digits_of k w)) ≡ length bytes = length-laid bytes (i * k) (digits_of k w) (omega (arith, length_digits k w)) in
    ap (λ (n : ℕ). drop (n / k * k) (laid bytes (i * k) (digits_of k w))) long
    ∙ drop-laid bytes (i * k) (length bytes / k * k) (digits_of k w) (omega (arith, length_digits k w)) fits

-- the words of a part

pub part_words : (k i j : ℕ) (bytes : List ℕ) → 0 < k → i ≤ j → j ≤ length bytes / k → length bytes / k * k ≤ length bytes
    → words_of k (slice_range bytes (i * k) (j * k)) ≡ slice_range (words_of k bytes) i j
unfolding words_of
part_words k i j bytes pos h inside fits =
    let between : i + (j - i) ≡ j = omega arith in
    let e : j * k - i * k ≡ (j - i) * k = omega (arith, rw between at (add-mul i (j - i) k)) in
    ap (λ (m : ℕ). words_of k (take m (drop (i * k) bytes))) e
    ∙ part_each k i (j - i) (length bytes / k) bytes pos (omega arith) fits

-- each word is one
pub two_below : (bytes : List ℕ) → Below 256 bytes → Below 0x10000 (words_of 2 bytes)
unfolding words_of
two_below bytes h = below_each 2 (length bytes / 2) bytes (omega arith) h

pub four_below : (bytes : List ℕ) → Below 256 bytes → Below 0x100000000 (words_of 4 bytes)
unfolding words_of
four_below bytes h = below_each 4 (length bytes / 4) bytes (omega arith) h

pub ruleset words_in_bytes = (two_bytes, four_bytes, count_words, get_words, put_words, rest_put, part_words)
