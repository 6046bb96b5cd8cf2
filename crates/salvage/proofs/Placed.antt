-- What is saved of a sector, in its place of a run: what stands there by itself, put back. Assumes nothing.
use Rattle.std.specs.Prelude.{slice_range}
use Prim.Native.Nat.{ℕ, ◌+◌, ◌-◌, ◌≤◌, ◌<◌}
use mathlib.Core.Path.{◌≡◌, refl, sym, ap, ◌∙◌}
use mathlib.Core.Bool.{true, false}
use mathlib.Core.List.{List, [], ◌∷◌, ◌++◌, append_assoc}
use native.Mathlib.Omega.{arith}
use lib.ListN.{length, get_or, set, take, drop, length-append, take-append-drop, length-replicate}
use lib.Seq.{drop-drop, length-take-le}
use Rattle.base.specs.Words.{part, laid, blanks}
use Rattle.base.proofs.Laid.{laid-part, laid_whole}
use Rattle.image.specs.Header.{segments_of}
use Rattle.flash.specs.Status.{is_empty}
use Rattle.salvage.specs.Follow.{valid_from, words_in, Filling, filling, all_kept}
use Rattle.salvage.specs.Sector.{kept, Saved, saved, placed, counted, can_follow, saved_of}
use Rattle.salvage.specs.declared.How.{How}
use Rattle.salvage.specs.declared.Kept.{Kept}
use Rattle.salvage.proofs.Goods.{Keeps, keeps_of, headed, none_kept, fewer_kept, not_blank, all_kept_lem, saves_empty, saves_none}
use Rattle.salvage.proofs.Promised.{same_size}

-- words put back in the place of as many
pub put_back : (ws new : List ℕ) (at n : ℕ) → length new ≡ n → take at ws ++ (new ++ drop n (drop at ws)) ≡ laid ws at new
unfolding laid
put_back ws new at n e =
    ap (λ (l : List ℕ). take at ws ++ (new ++ l)) (drop-drop n at ws ∙ ap (λ (k : ℕ). drop (at + k) ws) (sym e))
    ∙ sym (append_assoc (take at ws) new (drop (at + length new) ws))

-- a word put where a front of a run ends
set_behind : (a b : List ℕ) (w : ℕ) → set (a ++ b) (length a) w ≡ a ++ set b 0 w
set_behind [] b w = refl
set_behind (x ∷ a) b w = ap (λ (l : List ℕ). x ∷ l) (set_behind a b w)

set_front : (a b : List ℕ) (w : ℕ) → 0 < length a → set (a ++ b) 0 w ≡ set a 0 w ++ b
set_front [] b w h = absurd (omega (arith, h))
set_front (x ∷ a) b w h = refl

module _ (first second : List ℕ) (p : ℕ) (room : p + length first ≤ length second) (blank : part second p (length first) ≡ blanks (length first)) where
  abbrev behind : List ℕ
  behind = drop (length first) (drop p second)

  -- what stands in the place by itself, put back
  put : {r : Kept} {made after : List ℕ} → saved r made ≡ saved_of first → after ≡ take p second ++ (made ++ behind) → saved r after ≡ placed second p (saved_of first)
  put {r} {made} {after} e a =
      let size : length (saved_of first).words ≡ length first = same_size first in
      let words : made ≡ (saved_of first).words = ap (λ (s : Saved). s.words) e in
      let told : r ≡ (saved_of first).kept = ap (λ (s : Saved). s.kept) e in
      let all : after ≡ laid second p (saved_of first).words =
      a ∙ ap (λ (l : List ℕ). take p second ++ (l ++ behind)) words ∙ put_back second (saved_of first).words p (length first) size in
      λ i. saved (told i) (all i)

  -- nothing is written
  stays : second ≡ take p second ++ (blanks (length first) ++ behind)
  stays = laid_nothing ∙ ap (λ (l : List ℕ). take p second ++ (l ++ behind)) blank
    where
      laid_nothing : second ≡ take p second ++ (part second p (length first) ++ behind)
      laid_nothing = sym (ap (λ (l : List ℕ). take p second ++ l) (take-append-drop (length first) (drop p second)) ∙ take-append-drop p second)

  pub empty_placed : is_empty first ≡ true → saved (kept 0 How.Copied) second ≡ placed second p (saved_of first)
  empty_placed e = put (saves_empty first e) stays

  pub none_placed : is_empty first ≡ false → can_follow first ≡ false → saved (kept 0 How.Lost) second ≡ placed second p (saved_of first)
  none_placed some e = put (saves_none first some e) stays

  -- of a sector whose headers can be followed, by what was kept
  module _ (follows : can_follow first ≡ true) (n : ℕ) (e : n ≡ segments_of (get_or first 0 0)) (g : Filling)
      (q : g ≡ all_kept (valid_from n first 1) (filling second 0 (p + 1))) where
    abbrev inner : Filling
    inner = all_kept (valid_from n first 1) (filling (part second p (length first)) 0 1)

    k : Keeps first inner
    k = keeps_of first blank follows e refl

    segments : g.segments ≡ inner.segments
    segments = ap (λ (x : Filling). x.segments) q

    words : g.words ≡ p + inner.words
    words = ap (λ (x : Filling). x.words) q ∙ omega arith

    past : g.words - p ≡ inner.words
    past = omega (arith, words)

    run : g.run ≡ take p second ++ (inner.run ++ behind)
    run = ap (λ (x : Filling). x.run) q ∙ sym (laid-part second p (length first) 1 (words_in (valid_from n first 1)) room (omega (arith, k.fits)))

    with_header : {after : List ℕ} → after ≡ set g.run p (counted (get_or first 0 0) g.segments) → after ≡ take p second ++ (headed first inner ++ behind)
    with_header a =
        let h : ℕ = counted (get_or first 0 0) inner.segments in
        let at : length (take p second) ≡ p = length-take-le p second (omega arith) in
        a
        ∙ (λ i. set (run i) (sym at i) (counted (get_or first 0 0) (segments i)))
        ∙ set_behind (take p second) (inner.run ++ behind) h
        ∙ ap (λ (l : List ℕ). take p second ++ l) (set_front inner.run behind h k.long)

    pub place_fits : (g.segments ≤ 14) × (g.words ≤ p + length first) × (p + 1 ≤ g.words) × (p < length g.run) × (g.words - p ≤ length first)
    place_fits =
        let l : length g.run ≡ length (take p second ++ (inner.run ++ behind)) = ap length run in
        let at : length (take p second) ≡ p = length-take-le p second (omega arith) in
        (omega (arith, segments, k.few), omega (arith, words, k.fits), omega (arith, words), omega (arith, l, at, k.long, length-append (take p second) (inner.run ++ behind), length-append inner.run behind), omega (arith, past, k.fits))

    pub lost_placed : g.segments ≡ 0 → saved (kept 0 How.Lost) g.run ≡ placed second p (saved_of first)
    lost_placed z = put (none_kept k e (sym segments ∙ z) refl) run

    module _ (some : g.segments ≡ 0 → ⊥) (after : List ℕ) (a : after ≡ set g.run p (counted (get_or first 0 0) g.segments)) where
      is_some : inner.segments ≡ 0 → ⊥
      is_some z = some (segments ∙ z)

      pub fewer_placed : g.segments < n → saved (kept g.segments How.Reduced) after ≡ placed second p (saved_of first)
      fewer_placed l = put (fewer_kept k e is_some (omega (arith, l, segments)) (ap (λ (x : ℕ). kept x How.Reduced) segments)) (with_header a)

      module _ (rest : List ℕ) (m : ℕ) (cut : rest ≡ slice_range first (g.words - p) m) (long : m ≡ length first) where
        same : rest ≡ take (length first - inner.words) (drop inner.words first)
        same = cut ∙ (λ i. take (long i - past i) (drop (past i) first))

        pub not_blank_placed : is_empty rest ≡ false → saved (kept g.segments How.Reduced) after ≡ placed second p (saved_of first)
        not_blank_placed b = put (not_blank k e is_some (sym (ap is_empty same) ∙ b) (ap (λ (x : ℕ). kept x How.Reduced) segments)) (with_header a)

        pub all_placed : n ≤ g.segments → is_empty rest ≡ true → saved (kept g.segments How.Copied) after ≡ placed second p (saved_of first)
        all_placed l b = put (all_kept_lem k e (omega (arith, l, segments)) (sym (ap is_empty same) ∙ b) (ap (λ (x : ℕ). kept x How.Copied) segments)) (with_header a)

-- a run of the sector's size is its place
pub whole_place : (first second : List ℕ) → second ≡ blanks (length first) → placed second 0 (saved_of first) ≡ saved_of first
whole_place first second e =
    let size : length (saved_of first).words ≡ length second = same_size first ∙ sym (ap length e ∙ length-replicate (length first) 0xFFFF) in
    ap (saved (saved_of first).kept) (laid_whole second (saved_of first).words size)
