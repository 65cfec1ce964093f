-- The files that are accepted are the files of the valid tableaus: an accepted file is the file of its tableau, and the file of a valid tableau is
-- accepted and holds that tableau. So one tableau has one file. Assumes nothing.
use Prim.Native.Nat.{ℕ, ◌+◌, ◌-◌, ◌*◌, ◌/◌, ◌^◌, ◌<◌, ◌≤◌}
use native.Mathlib.Omega.{arith}
use mathlib.Core.Path.{◌≡◌, refl, sym, ap, ◌∙◌, subst}
use mathlib.Core.Bool.{true, cond}
use mathlib.Core.List.{List, [], ◌++◌, map, append-nil}
use lib.Dec.{T, eqb}
use lib.ListN.{length, get_or, take, drop, length-map, length-drop, take-append-drop, get_or-map, length-append}
use lib.Seq.{ext_get_or, take_all}
use lib.Ieee.{Float, nan, binary64, fits, of_bits, to_bits}
use lib.Ieee.Bits.{to_bits-of_bits, of_bits-to_bits, of_bits-fits, to_bits-lt}
use borrow.Author.Count.{below_none, below_more}
use borrow.Author.Tests.{eq-eqb}
use Rattle.float.proofs.Cases.{by, both}
use Rattle.vector.specs.Lists.{el}
use Rattle.vector.proofs.Lists.{every_of, length-table, table_at}
use Rattle.codec.specs.Little.{little, bytes_of_all, double_at}
use Rattle.float.proofs.Laws.{finite_not_nan}
use Rattle.vector.proofs.Lists.{get_d_default}
use Rattle.codec.proofs.Inverse.{Bytes, numbers, all_written, eight_lt, length-bytes_of_all, little_past, little_of_all}
use Rattle.tableau.specs.declared.Counts.{Counts}
use Rattle.tableau.specs.Tableau.{Tableau, btilde_at, if_present, how_many, allowed, valid}
use Rattle.tableau.specs.File.{place, header, file_of, number, counts_of, coefficients_of, tableau_of, matches, accepts}
use Rattle.tableau.proofs.Laws.{twice, square_in, number_some, length_coefficients, coefficient_at}
use Rattle.tableau.proofs.Accepted.{Accepted, Valid, is_accepted, is_valid}

length-header : (k : Counts) → length (header k) ≡ 12
unfolding header
length-header k = refl

-- ---- a file that is accepted
module _ (file : List ℕ) (B : Bytes file) (A : Accepted file) where
  whole : 48 ≤ length file
  whole = omega (arith, A.long)

  header_is : header (counts_of file) ≡ numbers 4 file 0 12
  header_is =
      let f : ℕ → ℕ = λ i. little 4 file (0 + 4 * i) in
      ext_get_or 0 (header (counts_of file)) (numbers 4 file 0 12) (length-header (counts_of file) ∙ sym (length-table f 12))
      (λ i h.
      let l : i < 12 = omega (arith, length-header (counts_of file)) in
      sym (A.number_at i l) ∙ sym (number_some file i whole) ∙ ap (little 4 file) (omega arith) ∙ sym (table_at 0 f 12 i l))

  bits_are : map (to_bits binary64) (coefficients_of file) ≡ numbers 8 file 48 ((length file - 48) / 8)
  bits_are =
      let n = (length file - 48) / 8 in
      let xs = coefficients_of file in
      let z = to_bits binary64 nan in
      let f : ℕ → ℕ = λ i. little 8 file (48 + 8 * i) in
      ext_get_or z (map (to_bits binary64) xs) (numbers 8 file 48 n) (length-map xs (to_bits binary64) ∙ length_coefficients file ∙ sym (length-table f n))
      (λ i h.
      let l : i < n = omega (arith, length-map xs (to_bits binary64), length_coefficients file) in
      let at = coefficient_at file i l in
      let a : allowed (el xs i) ≡ true = A.tableau.each_allowed i (omega (arith, length_coefficients file)) in
      get_or-map (to_bits binary64) xs i nan
      ∙ ap (to_bits binary64) at
      ∙ to_bits-of_bits binary64 (little 8 file (place i)) (eight_lt file (place i) B) (finite_not_nan (double_at file (place i)) (ap allowed (sym at) ∙ a))
      ∙ sym (table_at z f n i l))

  -- read and written again, it is the same bytes
  pub rewritten : file_of (tableau_of file) ≡ file
  unfolding file_of
  rewritten =
      let n = (length file - 48) / 8 in
      let L = A.long in
      let l : 48 + n * 8 ≡ length file = omega arith in
      let h : bytes_of_all 4 (header (counts_of file)) ≡ take 48 file = ap (bytes_of_all 4) header_is ∙ all_written 4 12 file 0 B (omega arith) in
      let t : bytes_of_all 8 (map (to_bits binary64) (coefficients_of file)) ≡ drop 48 file =
      ap (bytes_of_all 8) bits_are ∙ all_written 8 n file 48 B (omega arith) ∙ take_all (n * 8) (drop 48 file) (omega (arith, length-drop 48 file)) in
      rw (h, t) (take-append-drop 48 file)

pub accepted_is_written : (file : List ℕ) → Bytes file → accepts file ≡ true → file_of (tableau_of file) ≡ file
accepted_is_written file B a = rewritten file B (is_accepted file a)

-- one tableau has one file
pub one_file : (x y : List ℕ) → Bytes x → Bytes y → accepts x ≡ true → accepts y ≡ true → tableau_of x ≡ tableau_of y → x ≡ y
one_file x y Bx By ax ay e = sym (accepted_is_written x Bx ax) ∙ ap file_of e ∙ accepted_is_written y By ay

-- the same counts and the same bits of each coefficient: the same bytes
pub same_bits : (x y : List ℕ) → Bytes x → Bytes y → accepts x ≡ true → accepts y ≡ true → counts_of x ≡ counts_of y
    → ((k : ℕ) → k < length (coefficients_of x) → to_bits binary64 (el (coefficients_of x) k) ≡ to_bits binary64 (el (coefficients_of y) k)) → x ≡ y
same_bits x y Bx By ax ay e h =
    let X = is_accepted x ax in
    let Y = is_accepted y ay in
    let n : length (coefficients_of x) ≡ length (coefficients_of y) = X.tableau.many ∙ ap how_many e ∙ sym Y.tableau.many in
    let xs : coefficients_of x ≡ coefficients_of y =
    ext_get_or nan (coefficients_of x) (coefficients_of y) n
    (λ k l. sym (back x k l) ∙ ap (of_bits binary64) (h k l) ∙ back y k (omega arith)) in
    one_file x y Bx By ax ay (λ i. record { counts = e i; coefficients = xs i })
  where
    back : (x : List ℕ) (k : ℕ) → k < length (coefficients_of x) → of_bits binary64 (to_bits binary64 (el (coefficients_of x) k)) ≡ el (coefficients_of x) k
    back x k l =
        let a = coefficient_at x k (omega (arith, length_coefficients x)) in
        of_bits-to_bits binary64 (el (coefficients_of x) k) (subst (λ (v : Float). T (fits binary64 v)) (sym a) (of_bits-fits binary64 (little 8 x (place k))))

-- ---- the file of a tableau whose coefficients are doubles
bit_at : (xs : List Float) (i : ℕ) → i < length xs → get_or (map (to_bits binary64) xs) i 0 ≡ to_bits binary64 (el xs i)
bit_at xs i h = get_d_default (map (to_bits binary64) xs) i 0 (to_bits binary64 nan) (omega (arith, length-map xs (to_bits binary64))) ∙ get_or-map (to_bits binary64) xs i nan

many_most : (k : Counts) → k.stages ≤ 8 → how_many k ≤ 89
unfolding how_many if_present
many_most k h =
    let s = k.stages in
    let w = twice s in
    let q = square_in s h in
    by (eqb k.btilde 1) (λ e. rw e (omega arith)) (λ e. rw e (omega arith))

module _ (t : Tableau) (v : valid t ≡ true) (F : (i : ℕ) → i < length t.coefficients → T (fits binary64 (el t.coefficients i))) where
  abbrev k : Counts
  k = t.counts

  abbrev xs : List Float
  xs = t.coefficients

  is_one : Valid t
  is_one = is_valid t v

  abbrev bits : List ℕ
  bits = map (to_bits binary64) xs

  -- the twelve numbers are below 2 ^ 32
  abbrev Small : ℕ → Type 0
  Small j = get_or (header k) j 0 < 256 ^ 4

  small : (j : ℕ) → j < 12 → Small j
  unfolding header if_present
  small =
      let R = is_one.counts_in_range in
      let s = k.stages in
      let b = k.btilde in
      let w = twice s in
      let q = square_in s R.most in
      let m = many_most k R.most in
      let g : cond (eqb b 1) (place (btilde_at s)) 0 < 256 ^ 4 = by (eqb b 1) (λ e. rw e (omega arith)) (λ e. rw e (omega arith)) in
      below_more Small 11 (below_more Small 10 (below_more Small 9 (below_more Small 8 (below_more Small 7 (below_more Small 6 (below_more Small 5 (below_more Small 4 (below_more Small 3 (below_more Small 2 (below_more Small 1 (below_more Small 0 (below_none Small)
      (omega arith)) (omega arith)) (omega arith)) (omega arith)) (omega arith)) (omega arith)) (omega arith)) (omega arith)) (omega arith)) (omega arith)) g) (omega arith)

  length_head : length (bytes_of_all 4 (header k)) ≡ 48
  length_head = length-bytes_of_all 4 (header k) ∙ ap (λ (n : ℕ). n * 4) (length-header k)

  length-bits : length bits ≡ length xs
  length-bits = length-map xs (to_bits binary64)

  length_file : length (file_of t) ≡ 48 + 8 * length xs
  unfolding file_of
  length_file = length-append (bytes_of_all 4 (header k)) (bytes_of_all 8 bits) ∙ omega (arith, length_head, length-bytes_of_all 8 bits, length-bits)

  number_is : (i : ℕ) → i < 12 → number (file_of t) i ≡ get_or (header k) i 0
  number_is i h = sym (number_some (file_of t) i (omega (arith, length_file))) ∙ held
    where
      held : little 4 (file_of t) (4 * i) ≡ get_or (header k) i 0
      held =
          unfold file_of in
          ap (little 4 (bytes_of_all 4 (header k) ++ bytes_of_all 8 bits)) (omega arith)
          ∙ little_of_all 4 (header k) (bytes_of_all 8 bits) i (λ j l. small j (omega (arith, length-header k))) (omega (arith, length-header k))

  counts_are : counts_of (file_of t) ≡ k
  unfolding counts_of header
  counts_are =
      let a = number_is 0 (omega arith) in
      let b = number_is 1 (omega arith) in
      let c = number_is 2 (omega arith) in
      let d = number_is 3 (omega arith) in
      λ i. record { stages = a i; kind = b i; estimator = c i; btilde = d i }

  pattern_is : (i : ℕ) → i < length xs → little 8 (file_of t) (place i) ≡ to_bits binary64 (el xs i)
  unfolding file_of
  pattern_is i h =
      let H = bytes_of_all 4 (header k) in
      let R = bytes_of_all 8 bits in
      ap (little 8 (H ++ R)) (omega (arith, length_head))
      ∙ little_past 8 H R (i * 8)
      ∙ ap (λ (l : List ℕ). little 8 l (i * 8)) (sym (append-nil R))
      ∙ little_of_all 8 bits [] i
      (λ j l. let l' : j < length xs = omega (arith, length-bits) in subst (λ (n : ℕ). n < 256 ^ 8) (sym (bit_at xs j l')) (to_bits-lt binary64 (el xs j) (F j l')))
      (omega (arith, length-bits))
      ∙ bit_at xs i h

  coefficients_are : coefficients_of (file_of t) ≡ xs
  coefficients_are =
      let n : length (coefficients_of (file_of t)) ≡ length xs = omega (arith, length_coefficients (file_of t), length_file) in
      ext_get_or nan (coefficients_of (file_of t)) xs n
      (λ i h.
      let l : i < length xs = omega arith in
      coefficient_at (file_of t) i (omega (arith, length_file))
      ∙ ap (of_bits binary64) (pattern_is i l)
      ∙ of_bits-to_bits binary64 (el xs i) (F i l))

  -- it reads back as itself
  pub read_back : tableau_of (file_of t) ≡ t
  read_back = λ i. record { counts = counts_are i; coefficients = coefficients_are i }

  -- and is accepted
  pub written_is_accepted : accepts (file_of t) ≡ true
  unfolding accepts matches
  written_is_accepted =
      let c = counts_are in
      let l : length (file_of t) ≡ place (how_many (counts_of (file_of t))) = omega (arith, length_file, is_one.many, ap how_many c) in
      both (ap valid read_back ∙ v)
      (both (eq-eqb (length (file_of t)) (place (how_many (counts_of (file_of t)))) l)
      (every_of (matches (file_of t) (header (counts_of (file_of t)))) 12
      (λ i h. eq-eqb (number (file_of t) i) (get_or (header (counts_of (file_of t))) i 0) (number_is i h ∙ ap (λ (j : Counts). get_or (header j) i 0) (sym c)))))
