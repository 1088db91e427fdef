-- What is said of every way to part the items is said item by item; and what reading keeps at the end. Assumes nothing.
use mathlib.Core.Path.{◌≡◌, refl, ap}
use mathlib.Core.List.{List, [], ◌∷◌, ◌++◌, append-nil, append_assoc, nil≢cons, head-eq_of_cons-eq, tail-eq_of_cons-eq}
use Rattle.tokens.specs.Listed.{Tok}
use Rattle.layout.specs.Items.{Item}
use Rattle.layout.specs.Keeps.{Room, Fits, Laid}
use Rattle.layout.specs.State.{State, start, after, after_all}
use Rattle.layout.proofs.Sums.{Seen, none_seen, one_more}

module _ (room : Room) where
  -- each section fits with those before it
  abbrev pub Each : List Item → List Item → Type 0
  Each before [] = Unit
  Each before (i ∷ is) = Fits room before i × Each (before ++ (i ∷ [])) is

  abbrev Parted : List Item → List Item → Type 0
  Parted before all = (b : List Item) (i : Item) (a : List Item) → all ≡ b ++ (i ∷ a) → Fits room (before ++ b) i

  pub each_parted : (before all : List Item) → Each before all → Parted before all
  each_parted before [] h [] i a e = absurd (nil≢cons e)
  each_parted before [] h (x ∷ b) i a e = absurd (nil≢cons e)
  each_parted before (j ∷ js) h [] i a e = rw (append-nil before, ← head-eq_of_cons-eq e) h.0
  each_parted before (j ∷ js) h (x ∷ b) i a e =
      rw (← head-eq_of_cons-eq e) (rw (append_assoc before (j ∷ []) b) at (each_parted (before ++ (j ∷ [])) js h.1 b i a (tail-eq_of_cons-eq e)))

  pub parted_each : (before all : List Item) → Parted before all → Each before all
  parted_each before [] p = tt
  parted_each before (j ∷ js) p =
      let rest : Parted (before ++ (j ∷ [])) js = λ b i a e. rw (append_assoc before (j ∷ []) b) (p (j ∷ b) i a (ap (λ l. j ∷ l) e)) in
      (rw (append-nil before) at (p [] j js refl), parted_each (before ++ (j ∷ [])) js rest)

  -- what the state holds at the end is what the items say
  seen_all : (before is : List Item) (x : State) → Seen before x → Each before is → Seen (before ++ is) (after_all x is)
  seen_all before [] x s e = rw (append-nil before) s
  seen_all before (i ∷ is) x s e =
      rw (append_assoc before (i ∷ []) is) at (seen_all (before ++ (i ∷ [])) is (after x i) (one_more before x s room i e.0) e.1)

  pub laid_seen : {ts : List Tok} {is : List Item} → Laid room ts is → Seen is (after_all start is)
  laid_seen {is = is} l = seen_all [] is start none_seen (parted_each [] is l.fits)
