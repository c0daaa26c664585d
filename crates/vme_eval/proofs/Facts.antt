-- Facts of the recordings of a list, put together as `a & b & tt`.
infixr 5 ◌&◌
pub ◌&◌ : {A B : Type 0} → A → B → A × B
a & b = (a, b)
