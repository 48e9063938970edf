pub mod Favoured
