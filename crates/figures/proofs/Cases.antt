-- Closed cases of the figures, and what a wrong definition would have given there. Assumes nothing.
use Prim.Native.Nat.{◌/◌, ◌%◌}
use mathlib.Core.Path.{◌≡◌, refl}
use mathlib.Core.List.{◌∷◌}
use Rattle.facts.specs.Text.{bytes}
use Rattle.figures.specs.Figures.{figure, figures_on, figures}

-- the last figure first; two figures at the least, a zero before the one
figures_ten :
    (figures 10 0 ≡ bytes "0")
    × (figures 10 9 ≡ bytes "9")
    × (figures 10 10 ≡ bytes "10")
    × (figures 10 255 ≡ bytes "255")
    × (figure (10 % 10) ∷ figures 10 (10 / 10) ≡ bytes "01")
    × (figure (9 / 10) ∷ figures 10 9 ≡ bytes "09")
unfolding figure figures_on figures
figures_ten = (refl, refl, refl, refl, refl, refl)

-- two figures for ten, as in decimal
figures_sixteen :
    (figures 16 0 ≡ bytes "0")
    × (figures 16 9 ≡ bytes "9")
    × (figures 16 10 ≡ bytes "a")
    × (figures 16 255 ≡ bytes "ff")
    × (figures 10 10 ≡ bytes "10")
unfolding figure figures_on figures
figures_sixteen = (refl, refl, refl, refl, refl)
