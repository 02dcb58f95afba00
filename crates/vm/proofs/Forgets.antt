-- A trace to which 512 records are added forgets what it was.
-- Assumes nothing.
use Prim.Native.Nat.{ℕ, zero, suc, ◌+◌, ◌-◌, ◌≤◌, ◌<◌}
use native.Mathlib.Omega.{arith}
use native.Mathlib.Decide.{dec_lt}
use mathlib.Core.Path.{◌≡◌, refl, ap, sym, ◌∙◌}
use mathlib.Core.List.{List, [], ◌∷◌, ◌++◌}
use borrow.Author.Tests.{lt-ltb, le-ltb}
use lib.ListN.{length, drop, length-append, length-drop}
use Rattle.trace.specs.Trace.{pushed, take_last}
use Rattle.vm.proofs.Newest.{newest-pushed}
use Rattle.trace.specs.Lines.{logged}

module _ {A : Type 0} where
  pub few-pushed : (e : A) (t : List A) → length t ≤ 512 → length (pushed e t) ≤ 512
  unfolding pushed
  few-pushed e t h = go (dec_lt (length t) 512)
    where
      go : Dec (length t < 512) → length (pushed e t) ≤ 512
      go (yes y) = rw (lt-ltb _ _ y, length-append) (omega arith)
      go (no n) = let z : 512 ≤ length t = omega arith in rw (le-ltb _ _ z, length-append, length-drop) (omega arith)

  pub more-pushed : (e : A) (t : List A) (k : ℕ) → k ≤ length t → k < 512 → length t ≤ 512 → k + 1 ≤ length (pushed e t)
  unfolding pushed
  more-pushed e t k hk r h = go (dec_lt (length t) 512)
    where
      go : Dec (length t < 512) → k + 1 ≤ length (pushed e t)
      go (yes y) = rw (lt-ltb _ _ y, length-append) (omega arith)
      go (no n) = let z : 512 ≤ length t = omega arith in rw (le-ltb _ _ z, length-append, length-drop) (omega arith)

  -- one record after another
  pub logged_append : (a b t : List A) → logged (a ++ b) t ≡ logged b (logged a t)
  unfolding logged
  logged_append [] b t = refl
  logged_append (x ∷ a) b t = logged_append a b (pushed x t)

  pub few-logged : (es t : List A) → length t ≤ 512 → length (logged es t) ≤ 512
  unfolding logged
  few-logged [] t h = h
  few-logged (e ∷ es) t h = few-logged es (pushed e t) (few-pushed e t h)

  -- two traces whose newest k are the same, with one record more
  pub record Alike (k : ℕ) (t u : List A) : Type 0 where
    pub first : k ≤ length t
    pub second : k ≤ length u
    pub same : take_last k t ≡ take_last k u

  none_alike : (t u : List A) → Alike 0 t u
  none_alike t u = record { first = omega arith; second = omega arith; same = past t ∙ sym (past u) }
    where
      past : (t : List A) → take_last 0 t ≡ []
      past t = drop_all t (length t - 0) (omega arith)
        where
          drop_all : (t : List A) (n : ℕ) → length t ≤ n → drop n t ≡ []
          drop_all [] zero h = refl
          drop_all [] (suc n) h = refl
          drop_all (x ∷ t) zero h = absurd (omega arith)
          drop_all (x ∷ t) (suc n) h = drop_all t n (omega arith)

  more_alike : (e : A) (k : ℕ) (t u : List A) → k < 512 → length t ≤ 512 → length u ≤ 512 → Alike k t u → Alike (k + 1) (pushed e t) (pushed e u)
  more_alike e k t u r h g a =
      record {
        first = more-pushed e t k a.first r h;
        second = more-pushed e u k a.second r g;
        same = newest-pushed e t k a.first r h ∙ ap (λ (l : List A). l ++ (e ∷ [])) a.same ∙ sym (newest-pushed e u k a.second r g);
      }

  -- all 512 of them
  whole_newest : (t : List A) → length t ≡ 512 → take_last 512 t ≡ t
  whole_newest t e = let z : length t - 512 ≡ 0 = omega arith in ap (λ (n : ℕ). drop n t) z

  all_alike : (t u : List A) → length t ≤ 512 → length u ≤ 512 → Alike 512 t u → t ≡ u
  all_alike t u h g a = sym (whole_newest t (omega (arith, a.first))) ∙ a.same ∙ whole_newest u (omega (arith, a.second))

  forgets_from : (es : List A) (k : ℕ) (t u : List A) → k ≤ 512 → 512 ≤ k + length es → length t ≤ 512 → length u ≤ 512 → Alike k t u → logged es t ≡ logged es u
  unfolding logged
  forgets_from [] k t u r q h g a = let z : k ≡ 512 = omega arith in all_alike t u h g (rw z at a)
  forgets_from (e ∷ es) k t u r q h g a =
      go (dec_lt k 512) (λ y. forgets_from es (k + 1) (pushed e t) (pushed e u) (omega arith) (omega arith) (few-pushed e t h) (few-pushed e u g) (more_alike e k t u y h g a))
    where
      go : Dec (k < 512) → (k < 512 → logged es (pushed e t) ≡ logged es (pushed e u)) → logged es (pushed e t) ≡ logged es (pushed e u)
      go (yes y) f = f y
      go (no n) f = let z : k ≡ 512 = omega arith in ap (λ (v : List A). logged es (pushed e v)) (all_alike t u h g (rw z at a))

  -- whatever stood there before
  pub forgets : (es t u : List A) → 512 ≤ length es → length t ≤ 512 → length u ≤ 512 → logged es t ≡ logged es u
  forgets es t u q h g = forgets_from es 0 t u (omega arith) (omega arith) h g (none_alike t u)
