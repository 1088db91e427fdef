-- What stands in a body, by its header. Assumes nothing.
use Rattle.spots.specs.declared.Bad.{Bad}
use Rattle.std.specs.Prelude.{Result, Ok, Err}
use Prim.Native.Nat.{ℕ, zero, suc}
use native.Mathlib.Omega.{arith}
use mathlib.Core.Path.{◌≡◌, refl, sym, ◌∙◌, ap}
use mathlib.Core.List.{List}
use lib.ListN.{length}
use Rattle.tokens.specs.Listed.{Tok, tokens_from}
use Rattle.layout.specs.declared.Refusal.{Refusal}
use Rattle.layout.specs.Items.{Kind, node, cell, face, Perhaps, absent, given, points, elements, facets}
use Rattle.layout.specs.Reading.{got, bad, Reader, rows_of, pair_word, enclosed_of}
use Rattle.layout.specs.Sections.{element_of, facing_of, mixed_of, body_of}
use Rattle.bodies.specs.declared.rows.Row.{Row}
use Rattle.bodies.specs.declared.bodies.Shape.{Shape}
use Rattle.bodies.specs.Bodies.{forget, row_unit, shape_of, LooseAt}
use Rattle.bodies.proofs.Loose.{kept, enclosed_forget, loose_is}

module _ (size : ℕ) where
  abbrev shape_unit : Shape → ℕ → Reader Unit
  shape_unit (Shape.Rows row) n ts = forget (enclosed_of size (row_unit size row) n ts)
  shape_unit Shape.Bare n ts = got tt ts
  shape_unit Shape.Never n ts = bad Refusal.Grammar size

  body_is : (k : Kind) (d n : ℕ) (v : Perhaps) (ts : List Tok) → shape_unit (shape_of k d v) n ts ≡ forget (body_of size k d n v ts)
  unfolding body_of
  body_is node d n v ts = enclosed_forget size (rows_of size (pair_word size) d) n ts ∙ kept (enclosed_of size (rows_of size (pair_word size) d) n ts) (points d)
  body_is cell d n absent ts = refl
  body_is cell d n (given zero) ts = enclosed_forget size (element_of size) n ts ∙ kept (enclosed_of size (element_of size) n ts) elements
  body_is cell d n (given (suc e)) ts = refl
  body_is face d n absent ts = refl
  body_is face d n (given zero) ts = enclosed_forget size (mixed_of size) n ts ∙ kept (enclosed_of size (mixed_of size) n ts) facets
  body_is face d n (given (suc c)) ts = enclosed_forget size (facing_of size (suc c)) n ts ∙ kept (enclosed_of size (facing_of size (suc c)) n ts) facets

module _ (s : List ℕ) (at : ℕ) (k : Kind) (d n : ℕ) (v : Perhaps) {x : Shape} (e : x ≡ shape_of k d v) where
  by_shape : (y : Shape) → x ≡ y → shape_unit (length s) y n (tokens_from s at) ≡ forget (body_of (length s) k d n v (tokens_from s at))
  by_shape y q = ap (λ z. shape_unit (length s) z n (tokens_from s at)) (sym q ∙ e) ∙ body_is (length s) k d n v (tokens_from s at)

  pub body_rows : (row : Row) → x ≡ Shape.Rows row → {p : Result ℕ Bad} → LooseAt s at p (forget (enclosed_of (length s) (row_unit (length s) row) n (tokens_from s at)))
      → LooseAt s at p (forget (body_of (length s) k d n v (tokens_from s at)))
  body_rows row q h = loose_is s at (by_shape (Shape.Rows row) q) h

  pub body_bare : x ≡ Shape.Bare → LooseAt s at (Ok at) (forget (body_of (length s) k d n v (tokens_from s at)))
  body_bare q = record { says = by_shape Shape.Bare q; from = omega arith }

  pub body_never : x ≡ Shape.Never → LooseAt s at (Err (record { why = Refusal.Grammar; offset = length s })) (forget (body_of (length s) k d n v (tokens_from s at)))
  body_never q = record { says = by_shape Shape.Never q; from = tt }
