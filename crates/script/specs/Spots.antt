use Rattle.std.specs.Prelude.{◌≡◌}
use Rattle.place.specs.declared.Place.{Place}

-- the script stands where it stood: only the tables may have changed
pub record Stands (p q : Place) : Type 0 where
  pub at : q.at ≡ p.at
  pub number : q.number ≡ p.number
  pub used : q.used ≡ p.used
