pub mod Meets
pub mod Turning
pub mod Handles
pub mod Fresh
pub mod Laying
pub mod Envs
pub mod Same
