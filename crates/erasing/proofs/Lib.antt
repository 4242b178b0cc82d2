mod Leaves
mod Usings
