-- The reason that a pass and a word tell. Assumes nothing.
use mathlib.Core.Path.{◌≡◌, refl, sym, ap, ◌∙◌}
use mathlib.Core.Bool.{true, false}
use mathlib.Core.Option.{none, some}
use mathlib.Core.List.{List, [], ◌∷◌}
use Prim.Native.Nat.{ℕ, ◌+◌, ◌-◌, ◌<◌}
use native.Mathlib.Omega.{arith}
use borrow.Author.Tests.{ne_eqb}
use lib.ListN.{length, drop}
use Rattle.std.specs.Prelude as std
use Rattle.rows.specs.Region.{part}
use Rattle.rules.specs.Line.{bytes}
use Rattle.rules.specs.Text.{equal, whole}
use Rattle.rules.specs.Mending.{Reason, pass_of, word_of}
use Rattle.rules.specs.Applying.{reason_read, all_reasons}
use Rattle.text_fields.specs.Fields.{Piece}
use Rattle.mending_laws.proofs.Parting.{parted_some}
use Rattle.list_lines.specs.declared.Reason as read
use Rattle.list_lines.specs.declared.Reason.TheVariants as word
use Rattle.list_lines.specs.Lines.{tabbed, reason, why, reason_at, reason_told, NumberIs, NumberNone}
use Rattle.list_lines.proofs.Fields.{tabbed_end, tabbed_at}

-- ---- the word, by the pass

module _ {k : ℕ} (field : List ℕ) where
  -- pass 1
  pub why_repeated : k ≡ 1 → true ≡ equal field (bytes "repeated") → why (std.Some word.Repeated) ≡ reason_at k field
  unfolding why reason reason_at
  why_repeated e h = rw (e, ← h) refl

  pub why_thin : k ≡ 1 → false ≡ equal field (bytes "repeated") → true ≡ equal field (bytes "thin") → why (std.Some word.Thin) ≡ reason_at k field
  unfolding why reason reason_at
  why_thin e g h = rw (e, ← g, ← h) refl

  pub why_no_first : k ≡ 1 → false ≡ equal field (bytes "repeated") → false ≡ equal field (bytes "thin") → why std.None ≡ reason_at k field
  unfolding why reason reason_at
  why_no_first e g h = rw (e, ← g, ← h) refl

  -- pass 2
  pub why_duplicate : k ≡ 2 → true ≡ equal field (bytes "duplicate") → why (std.Some word.Duplicate) ≡ reason_at k field
  unfolding why reason reason_at
  why_duplicate e h = rw (e, ← h) refl

  pub why_no_second : k ≡ 2 → false ≡ equal field (bytes "duplicate") → why std.None ≡ reason_at k field
  unfolding why reason reason_at
  why_no_second e h = rw (e, ← h) refl

  -- pass 3
  pub why_edge : k ≡ 3 → true ≡ equal field (bytes "edge") → why (std.Some word.Edge) ≡ reason_at k field
  unfolding why reason reason_at
  why_edge e h = rw (e, ← h) refl

  pub why_no_third : k ≡ 3 → false ≡ equal field (bytes "edge") → why std.None ≡ reason_at k field
  unfolding why reason reason_at
  why_no_third e h = rw (e, ← h) refl

  -- pass 4
  pub why_direction : k ≡ 4 → true ≡ equal field (bytes "direction") → why (std.Some word.Direction) ≡ reason_at k field
  unfolding why reason reason_at
  why_direction e h = rw (e, ← h) refl

  pub why_no_fourth : k ≡ 4 → false ≡ equal field (bytes "direction") → why std.None ≡ reason_at k field
  unfolding why reason reason_at
  why_no_fourth e h = rw (e, ← h) refl

  -- no other pass has a reason
  pub why_no_pass : (k ≡ 1 → ⊥) → (k ≡ 2 → ⊥) → (k ≡ 3 → ⊥) → (k ≡ 4 → ⊥) → why std.None ≡ reason_at k field
  unfolding why reason_at
  why_no_pass a b c d = rw (ne_eqb k 1 a, ne_eqb k 2 b, ne_eqb k 3 c, ne_eqb k 4 d) refl

-- ---- the two fields

-- a pass that is a number
read_at : (p field : List ℕ) (k : ℕ) → whole p ≡ some k → reason_read p field all_reasons ≡ reason_at k field
unfolding reason_read reason_at pass_of word_of
read_at p field k e = rw e refl

-- a pass that is none
read_none : (p field : List ℕ) (ws : List Reason) → whole p ≡ none → reason_read p field ws ≡ none
unfolding reason_read
read_none p field [] e = refl
read_none p field (w ∷ ws) e = rw e (read_none p field ws e)

-- the pass holds no number
pub told_none : {xs : List ℕ} → NumberNone xs → why std.None ≡ reason_told (tabbed xs)
unfolding why reason_told
told_none {xs} p = rw p.fields (go p.others)
  where
    go : (others : List (List ℕ)) → none ≡ reason_told (p.field ∷ others)
    go [] = refl
    go (w ∷ []) = sym (read_none p.field w all_reasons p.first)
    go (w ∷ x ∷ rest) = refl

-- no word follows
pub told_short : {xs : List ℕ} {n k : ℕ} → NumberIs xs n k → k ≡ length xs → why std.None ≡ reason_told (tabbed xs)
unfolding why reason_told
told_short {xs} {n} {k} p e = rw (p.fields, tabbed_end xs k e) refl

module _ {xs : List ℕ} {n k end : ℕ} (p : NumberIs xs n k) (h : k ≡ length xs → ⊥) (q : Piece xs (k + 1) 9 end) where
  -- more follows than the word
  pub told_more : (end ≡ length xs → ⊥) → why std.None ≡ reason_told (tabbed xs)
  unfolding why reason_told
  told_more e =
      let l : k < length xs = omega (arith, p.ends) in
      let m : end < length xs = omega (arith, q.ends) in
      let s = parted_some 9 (drop (end + 1) xs) in
      rw (p.fields, tabbed_at xs k l, q.more m, s.is) refl

  -- the word is the last field
  pub told_word : end ≡ length xs → (r : std.Option read.Reason) → why r ≡ reason_at n (part xs (k + 1) (length xs - (k + 1))) → why r ≡ reason_told (tabbed xs)
  unfolding reason_told
  told_word e r w =
      let l : k < length xs = omega (arith, p.ends) in
      w
      ∙ sym (ap reason_told (p.fields ∙ ap (λ (z : List (List ℕ)). part xs 1 (k - 1) ∷ z) (tabbed_at xs k l ∙ rw e at (q.last e)))
      ∙ read_at (part xs 1 (k - 1)) (part xs (k + 1) (length xs - (k + 1))) n p.first)
