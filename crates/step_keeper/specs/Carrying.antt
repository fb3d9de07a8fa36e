-- For which histories a keeper of steps stands, and what its calls carry from one to the next. A keeper stands for a history
-- since a start, which is a keeper as it once was with the history that it then stood for: so what lay between may be told.
use Rattle.sched_plain.specs.History.{History}

-- a keeper with the history that it stood for
pub record Start (K : Type 0) : Type 0 where
  pub keeper : K
  pub history : History

-- what a keeper, as it was, stood for it now stands for with something upon it that is so
abbrev pub Carries : {K : Type 0} → (Start K → History → Type 0) → (Start K → History → Type 0) → (History → History → Type 0) → Type 0
Carries {K} stood stands P = (since : Start K) (h : History) → stood since h → (after : History) × stands since after × P h after

-- the same where what comes of it is a function of what it was
abbrev pub CarriesTo : {K : Type 0} → (Start K → History → Type 0) → (Start K → History → Type 0) → (History → History) → Type 0
CarriesTo {K} stood stands f = (since : Start K) (h : History) → stood since h → stands since (f h)

-- the same of those histories alone of which something was so before
abbrev pub CarriesWhere : {K : Type 0} → (History → Type 0) → (Start K → History → Type 0) → (Start K → History → Type 0) → (History → History → Type 0) → Type 0
CarriesWhere {K} Where stood stands P = (since : Start K) (h : History) → stood since h → Where h → (after : History) × stands since after × P h after

-- a keeper stands for some history
abbrev pub Lives : {K : Type 0} → (Start K → History → Type 0) → Type 0
Lives {K} stands = (since : Start K) × (h : History) × stands since h

-- and for one of which something is so
abbrev pub LivesWhere : {K : Type 0} → (History → Type 0) → (Start K → History → Type 0) → Type 0
LivesWhere {K} Where stands = (since : Start K) × (h : History) × stands since h × Where h

-- of each history that a keeper stands for, something is so
abbrev pub Shows : {K : Type 0} → (Start K → History → Type 0) → (History → Type 0) → Type 0
Shows {K} stands P = (since : Start K) (h : History) → stands since h → P h

-- a history stays
abbrev pub same : History → History
same h = h
