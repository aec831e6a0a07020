pub mod ToldSoFar
