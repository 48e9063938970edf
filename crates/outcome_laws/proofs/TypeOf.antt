-- The type of a value, where its crate exports the value alone.
abbrev pub TypeOf : {A : Type 0} → A → Type 0
TypeOf {A} x = A
