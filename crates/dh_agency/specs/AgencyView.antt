-- What contracts see of an agency.
use Rattle.std.specs.Prelude.{Bool, refl}
use Rattle.std.specs.Coded.{Coded, code_by, coded×, coded_bool}
use Rattle.sqlite.specs.Held.{Held, held_code}

pub record AgencyView (S : Type 0) : Type 0 where
  pub conn : Held S
  -- it answered a fault, and does no more
  pub is_stopped : Bool

abbrev pub agency_view_code : {S : Type 0} → Coded S → Coded (AgencyView S)
agency_view_code {S} store =
    code_by (Held S × Bool) (coded× (held_code store) coded_bool) (λ s. (s.conn, s.is_stopped)) (λ p. record { conn = p.0; is_stopped = p.1 }) (λ _. refl)
