-- `puts`: its length, what it leaves, what it holds, and one more store of a loop; the length of `puts_column`. Assumes nothing.
use Rattle.std.proofs.lemmas.Grind.{common_steps}
use Prim.Native.Nat.{ℕ, zero, suc, ◌+◌, ◌-◌, ◌<◌, ◌≤◌}
use native.Mathlib.Omega.{arith}
use native.Mathlib.Numerals.{add-one}
use native.Mathlib.Nat.{add-zero, add-suc}
use mathlib.Core.Path.{◌≡◌, refl, sym, ap, ◌∙◌}
use mathlib.Core.Bool.{cond}
use mathlib.Core.List.{List}
use mathlib.Core.Logic.{◌⊎◌, inl, inr, ⊎_elim}
use lib.ListN.{length, get_or, set, length-set}
use lib.Seq.{set-get_or, set-set, set_comm, get_or-set_same, get_or-set_other, ext_get_or}
use lib.Dec.{eqb, ltb}
use borrow.Author.Tests.{eq-eqb, ne_eqb, eqb-true, eqb-false, ltb-true, ltb-false}
use borrow.Rule.Slice.PartMut.{put_mid}
use Rattle.float.proofs.Cases.{yes, no, by}
use lib.Ieee.{Float, nan}
use Rattle.vector.specs.Lists.{el}
use Rattle.vector.specs.Parts.{puts, puts_column}

module _ {A : Type 0} where
  pub length-puts : (w : List A) (at : ℕ) (f : ℕ → A) (n : ℕ) → length (puts w at f n) ≡ length w
  unfolding puts
  length-puts w at f zero = refl
  length-puts w at f (suc n) = simp length-set (length-puts w at f n)

  pub length-puts_column : (w : List A) (at n k : ℕ) (f : ℕ → A) (r : ℕ) → length (puts_column w at n k f r) ≡ length w
  unfolding puts_column
  length-puts_column w at n k f zero = refl
  length-puts_column w at n k f (suc r) = simp length-set (length-puts_column w at n k f r)

  -- what lies outside is left
  pub puts_left : (d : A) (w : List A) (at : ℕ) (f : ℕ → A) (n j : ℕ) → (j < at) ⊎ (at + n ≤ j) → get_or (puts w at f n) j d ≡ get_or w j d
  unfolding puts
  puts_left d w at f zero j h = refl
  puts_left d w at f (suc n) j h =
      let q : j ≡ at + n → ⊥ = λ e. ⊎_elim (λ a. omega arith) (λ a. omega arith) h in
      get_or-set_other (puts w at f n) (at + n) j (f n) d q
      ∙ puts_left d w at f n j (⊎_elim {C = (j < at) ⊎ (at + n ≤ j)} (λ a. inl a) (λ a. inr (omega arith)) h)

  pub puts_held : (d : A) (w : List A) (at : ℕ) (f : ℕ → A) (n i : ℕ) → at + n ≤ length w → i < n → get_or (puts w at f n) (at + i) d ≡ f i
  unfolding puts
  puts_held d w at f zero i l h = absurd (omega arith)
  puts_held d w at f (suc n) i l h =
      by (eqb i n)
      (λ t. let e : i ≡ n = eqb-true i n t in
      rw e (get_or-set_same (puts w at f n) (at + n) (f n) d (omega (arith, length-puts w at f n))))
      (λ t. let k : i < n = omega (arith, eqb-false i n t) in
      get_or-set_other (puts w at f n) (at + n) (at + i) (f n) d (λ q. eqb-false i n t (omega arith))
      ∙ puts_held d w at f n i (omega arith) k)

  -- a loop's next store, of a value that is right
  pub puts_more : (w : List A) (at : ℕ) (f : ℕ → A) (k : ℕ) {v : A} → v ≡ f k → set (puts w at f k) (at + k) v ≡ puts w at f (k + 1)
  unfolding puts
  puts_more w at f k e = rw (add-one, e)

  -- what a loop reads and has not written: ahead of what it writes, or before all of that
  pub puts_ahead : (d : A) (w : List A) (at : ℕ) (f : ℕ → A) (n k a : ℕ) → k < n → (a + n ≤ at) ⊎ (at ≤ a) → get_or (puts w at f k) (a + k) d ≡ get_or w (a + k) d
  puts_ahead d w at f n k a l h = grind (arith, common_steps, puts_left)

  -- values that agree are one store
  pub puts_same : (w : List A) (at : ℕ) (f g : ℕ → A) (n : ℕ) → ((j : ℕ) → j < n → f j ≡ g j) → puts w at f n ≡ puts w at g n
  unfolding puts
  puts_same w at f g zero h = refl
  puts_same w at f g (suc n) h = rw (puts_same w at f g n (λ j k. h j (omega arith)), h n (omega arith))

  -- one of the stored values stored anew
  pub puts-set : (d : A) (w : List A) (at : ℕ) (f : ℕ → A) (n k : ℕ) (v : A) → at + n ≤ length w → k < n
      → set (puts w at f n) (at + k) v ≡ puts w at (λ j. cond (eqb j k) v (f j)) n
  puts-set d w at f n k v h l =
      let p = puts w at f n in
      let g : ℕ → A = λ j. cond (eqb j k) v (f j) in
      ext_get_or d (set p (at + k) v) (puts w at g n) (length-set p (at + k) v ∙ length-puts w at f n ∙ sym (length-puts w at g n))
      (λ j q. by (eqb j (at + k))
      (λ t. rw (eqb-true j (at + k) t) (get_or-set_same p (at + k) v d (omega (arith, length-puts w at f n)) ∙ sym (puts_held d w at g n k h l ∙ sym (yes (f k) (eq-eqb k k refl) refl))))
      (λ t. get_or-set_other p (at + k) j v d (eqb-false j (at + k) t)
      ∙ by (ltb j at)
      (λ b. puts_left d w at f n j (inl (ltb-true j at b)) ∙ sym (puts_left d w at g n j (inl (ltb-true j at b))))
      (λ b. by (ltb j (at + n))
      (λ b'. let i = j - at in
      let e : j ≡ at + i = omega (arith, ltb-false j at b) in
      let r : i < n = omega (arith, ltb-true j (at + n) b', ltb-false j at b) in
      let other : i ≡ k → ⊥ = λ z. eqb-false j (at + k) t (omega arith) in
      rw e (puts_held d w at f n i h r ∙ sym (puts_held d w at g n i h r ∙ sym (no v (ne_eqb i k other) refl))))
      (λ b'. puts_left d w at f n j (inr (ltb-false j (at + n) b')) ∙ sym (puts_left d w at g n j (inr (ltb-false j (at + n) b')))))))

  -- a store of what stands there
  pub puts_own : (d : A) (w : List A) (at n : ℕ) → puts w at (λ j. get_or w (at + j) d) n ≡ w
  unfolding puts
  puts_own d w at zero = refl
  puts_own d w at (suc n) = ap (λ (v : List A). set v (at + n) (get_or w (at + n) d)) (puts_own d w at n) ∙ set-get_or w (at + n) d

  -- a store outside, before or after
  pub set-puts : (w : List A) (at : ℕ) (f : ℕ → A) (n j : ℕ) (u : A) → (j < at) ⊎ (at + n ≤ j) → set (puts w at f n) j u ≡ puts (set w j u) at f n
  unfolding puts
  set-puts w at f zero j u h = refl
  set-puts w at f (suc n) j u h =
      let q : at + n ≡ j → ⊥ = λ e. ⊎_elim (λ a. omega arith) (λ a. omega arith) h in
      set_comm (puts w at f n) (at + n) j (f n) u q
      ∙ ap (λ (v : List A). set v (at + n) (f n)) (set-puts w at f n j u (⊎_elim {C = (j < at) ⊎ (at + n ≤ j)} (λ a. inl a) (λ a. inr (omega arith)) h))

  -- a store over another
  pub puts_again : (w : List A) (at : ℕ) (f g : ℕ → A) (n : ℕ) → puts (puts w at f n) at g n ≡ puts w at g n
  unfolding puts
  puts_again w at f g zero = refl
  puts_again w at f g (suc n) =
      ap (λ (v : List A). set v (at + n) (g n)) (sym (set-puts (puts w at f n) at g n (at + n) (f n) (inr (omega arith))))
      ∙ set-set (puts (puts w at f n) at g n) (at + n) (f n) (g n)
      ∙ ap (λ (v : List A). set v (at + n) (g n)) (puts_again w at f g n)

  -- a store right after another
  pub puts_join : (w : List A) (at : ℕ) (f : ℕ → A) (m : ℕ) (g : ℕ → A) (n : ℕ) → ((j : ℕ) → j < n → g j ≡ f (m + j)) → puts (puts w at f m) (at + m) g n ≡ puts w at f (m + n)
  unfolding puts
  puts_join w at f m g zero h = ap (puts w at f) (sym (add-zero m))
  puts_join w at f m g (suc n) h =
      let e : at + m + n ≡ at + (m + n) = omega arith in
      rw (add-suc, puts_join w at f m g n (λ j k. h j (omega arith)), h n (omega arith), e)

  -- a loop that stores in two places, the first before the second: its next stores
  pub puts_both : (w : List A) (a b : ℕ) (f g : ℕ → A) (k : ℕ) {u v : A} → a + k < b → u ≡ f k → v ≡ g k
      → set (set (puts (puts w a f k) b g k) (a + k) u) (b + k) v ≡ puts (puts w a f (k + 1)) b g (k + 1)
  puts_both w a b f g k {u} {v} h p q = grind (arith, common_steps, set-puts, puts_more)

  -- stores elsewhere, before or after
  pub puts_past : (w : List A) (a : ℕ) (f : ℕ → A) (m b : ℕ) (g : ℕ → A) (n : ℕ) → b + n ≤ a → puts (puts w a f m) b g n ≡ puts (puts w b g n) a f m
  unfolding puts
  puts_past w a f m b g zero h = refl
  puts_past w a f m b g (suc n) h =
      ap (λ (v : List A). set v (b + n) (g n)) (puts_past w a f m b g n (omega arith)) ∙ set-puts (puts w b g n) a f m (b + n) (g n) (inl (omega arith))

  -- ---- a part that was lent, from a on and k long, and has come back as ys: `put_mid a k xs ys`
  pub mid_before : (d : A) (a k : ℕ) (xs ys : List A) (j : ℕ) → a ≤ length xs → j < a → get_or (put_mid a k xs ys) j d ≡ get_or xs j d
  mid_before d a k xs ys j h q = grind (arith, common_steps)

  pub mid_inside : (d : A) (a k : ℕ) (xs ys : List A) (j : ℕ) → a ≤ length xs → j < length ys → get_or (put_mid a k xs ys) (a + j) d ≡ get_or ys j d
  mid_inside d a k xs ys j h q = grind (arith, common_steps)

  pub mid_after : (d : A) (a k : ℕ) (xs ys : List A) (j : ℕ) → a ≤ length xs → length ys ≡ k → a + k ≤ j → get_or (put_mid a k xs ys) j d ≡ get_or xs j d
  mid_after d a k xs ys j h l q = grind (arith, common_steps)

  pub length_mid : (a k : ℕ) (xs ys : List A) → a + k ≤ length xs → length ys ≡ k → length (put_mid a k xs ys) ≡ length xs
  length_mid a k xs ys h l = grind (arith, common_steps)

  -- it is a store
  pub mid_puts : (d : A) (a k : ℕ) (xs ys : List A) → a + k ≤ length xs → length ys ≡ k → put_mid a k xs ys ≡ puts xs a (λ j. get_or ys j d) k
  mid_puts d a k xs ys h l =
      let f : ℕ → A = λ j. get_or ys j d in
      ext_get_or d (put_mid a k xs ys) (puts xs a f k) (length_mid a k xs ys h l ∙ sym (length-puts xs a f k))
      (λ j q.
      by (ltb j a)
      (λ t. let u : j < a = ltb-true j a t in
      mid_before d a k xs ys j (omega arith) u ∙ sym (puts_left d xs a f k j (inl u)))
      (λ t. let u : a ≤ j = ltb-false j a t in
      by (ltb j (a + k))
      (λ t₂. let v : j < a + k = ltb-true j (a + k) t₂ in
      let e : a + (j - a) ≡ j = omega arith in
      ap (λ (i : ℕ). get_or (put_mid a k xs ys) i d) (sym e) ∙ mid_inside d a k xs ys (j - a) (omega arith) (omega arith)
      ∙ sym (puts_held d xs a f k (j - a) h (omega arith)) ∙ ap (λ (i : ℕ). get_or (puts xs a f k) i d) e)
      (λ t₂. let v : a + k ≤ j = ltb-false j (a + k) t₂ in
      mid_after d a k xs ys j (omega arith) l v ∙ sym (puts_left d xs a f k j (inr v)))))

-- a part that came back, in the form in which a tactic applies it
pub mid_el : (w x : List Float) (at k : ℕ) → at + k ≤ length w → length x ≡ k → put_mid at k w x ≡ puts w at (el x) k
mid_el w x at k h e = mid_puts nan at k w x h e
