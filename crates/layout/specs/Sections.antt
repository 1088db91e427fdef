-- [01:Refusal numbers], order: "A header, or section 2, is taken up to its `)` with 2, 3 and 4 as met; then 5 to 11 in number order; then the body, word by word,
-- where 2, 3 and 9 can arise." Assumes nothing.
use Rattle.std.specs.Prelude.{ℕ, zero, suc, List, [], ◌∷◌, Bool, true, false, ◌&&◌, ◌||◌, not, ltb, leb, eqb, replicate}
use Rattle.tokens.specs.Listed.{Tok, left, right, text, cut, word}
use Rattle.layout.specs.declared.Refusal.{Refusal}
use Rattle.layout.specs.Items.{Kind, node, cell, face, Perhaps, absent, given, Header, count_of, Facet, Body, points, elements, facets, Item, dim, decl, part, other, dim_word}
use Rattle.layout.specs.Keeps.{Room, room_for}
use Rattle.layout.specs.Reading.{got, bad, Reader, next, ◌>>=◌, ◌>>◌, pure, check, choose, Read, left_of, right_of, id_word, hex_word, pair_word, skip, rows_of, enclosed_of}
use Rattle.layout.specs.State.{State, per, dim_after, every, clear, fits_in, decl_range, part_range, dim_listed, type_listed, fifth_listed, dim_agrees, is_node, dim_known, zone_fits}

-- a header's words with their offsets, and the offset of its `)`
pub record Head : Type 0 where
  pub zone : Read
  pub first : Read
  pub last : Read
  pub type : Read
  pub fifth : Perhaps
  pub fifth_at : ℕ
  pub end : ℕ

abbrev pub header_of : Head → Header
header_of h = record { zone = h.zone.value; first = h.first.value; last = h.last.value; type = h.type.value; fifth = h.fifth }

pub record Word : Type 0 where
  pub word : Perhaps
  pub at : ℕ

abbrev pub starts_right : List Tok → Bool
starts_right [] = false
starts_right (left o ∷ ts) = false
starts_right (right o ∷ ts) = true
starts_right (text o ∷ ts) = false
starts_right (cut o ∷ ts) = false
starts_right (word o w ∷ ts) = false

module _ (size : ℕ) where
  -- the fifth word, which may be absent where `optional`
  unfoldable pub fifth_of : Bool → Reader Word
  fifth_of optional = λ ts. elim (optional && starts_right ts) [
    | true ↦ got (record { word = absent; at = 0 }) ts
    | false ↦ next (hex_word size ts) (λ r. pure (record { word = given r.value; at = r.at }))
  ]

  unfoldable pub head_of : Kind → Reader Head
  head_of k = do
    left_of size
    z ← hex_word size
    f ← hex_word size
    l ← hex_word size
    t ← hex_word size
    v ← fifth_of (eqb z.value 0 || is_node k)
    e ← right_of size
    pure (record { zone = z; first = f; last = l; type = t; fifth = v.word; fifth_at = v.at; end = e })

  -- ---- bodies
  unfoldable pub element_of : Reader ℕ
  element_of = do
    e ← hex_word size
    check (leb 1 e.value && leb e.value 6) Refusal.Type e.at do
      pure e.value

  unfoldable pub hex_of : Reader ℕ
  hex_of = do
    v ← hex_word size
    pure v.value

  unfoldable pub facing_of : ℕ → Reader Facet
  facing_of n = do
    ns ← rows_of size hex_of n
    r ← hex_of
    l ← hex_of
    pure (record { corners = ns; right = r; left = l })

  unfoldable pub mixed_of : Reader Facet
  mixed_of = do
    n ← hex_word size
    check (leb 2 n.value && leb n.value 4) Refusal.Type n.at do
      facing_of n.value

  -- n things; d coordinates a node
  unfoldable pub body_of : Kind → ℕ → ℕ → Perhaps → Reader Body
  body_of node d n v = do
    ps ← enclosed_of size (rows_of size (pair_word size) d) n
    pure (points d ps)
  body_of cell d n absent = λ ts. bad Refusal.Grammar size
  body_of cell d n (given zero) = do
    es ← enclosed_of size element_of n
    pure (elements es)
  body_of cell d n (given (suc e)) = pure (elements (replicate n (suc e)))
  body_of face d n absent = λ ts. bad Refusal.Grammar size
  body_of face d n (given zero) = do
    fs ← enclosed_of size mixed_of n
    pure (facets fs)
  body_of face d n (given (suc c)) = do
    fs ← enclosed_of size (facing_of (suc c)) n
    pure (facets fs)

  -- ---- sections, behind their id
  unfoldable pub two_of : State → Reader Item
  two_of x = do
    n ← hex_word size
    right_of size
    check (dim_listed (given n.value)) Refusal.Type n.at do
      check (dim_agrees x (given n.value)) Refusal.Dimension n.at do
        pure (dim n.value)

  module _ (room : Room) where
    unfoldable pub decl_of : Kind → State → Head → Reader Item
    decl_of k x h = do
      check (not (per x k).declared) Refusal.Undeclared h.zone.at do
        check (decl_range h.first.value h.last.value) Refusal.Range h.first.at do
          check (fits_in (room_for room k) h.last.value) Refusal.TableRoom h.first.at do
            check (dim_listed (dim_word k h.fifth)) Refusal.Type h.fifth_at do
              check (dim_agrees x (dim_word k h.fifth)) Refusal.Dimension h.fifth_at do
                right_of size
                pure (decl k (header_of h))

    unfoldable pub part_of : Kind → State → Head → Reader Item
    part_of k x h = do
      check (per x k).declared Refusal.Undeclared h.zone.at do
        check (part_range (per x k).total h.zone.value h.first.value h.last.value) Refusal.Range h.first.at do
          check (every (clear h.first.value h.last.value) (per x k).spans) Refusal.Overlap h.first.at do
            check (type_listed k h.type.value) Refusal.Type h.type.at do
              check (fifth_listed k h.fifth) Refusal.Type h.fifth_at do
                check (dim_agrees x (dim_word k h.fifth)) Refusal.Dimension h.fifth_at do
                  check (dim_known k (dim_after x.dimension (dim_word k h.fifth))) Refusal.Dimension h.end do
                    check (zone_fits room.zones x.zones) Refusal.ZoneRoom h.zone.at do
                      b ← body_of k (dim_after x.dimension (dim_word k h.fifth)) (count_of (header_of h)) h.fifth
                      right_of size
                      pure (part k (header_of h) b)

    unfoldable pub kind_of : Kind → State → Reader Item
    kind_of k x = do
      h ← head_of k
      choose (eqb h.zone.value 0) (decl_of k x h) (part_of k x h)

    unfoldable pub other_of : Reader Item
    other_of = do
      skip size 0
      pure other

    -- "Binary: id 2000 to 3999"
    unfoldable pub section_of : State → Reader Item
    section_of x = do
      n ← id_word size
      check (ltb n.value 2000 || ltb 3999 n.value) Refusal.Binary n.at do
        choose (eqb n.value 2) (two_of x) do
          choose (eqb n.value 10) (kind_of node x) do
            choose (eqb n.value 12) (kind_of cell x) do
              choose (eqb n.value 13) (kind_of face x) other_of
